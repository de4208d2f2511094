use Rattle.std.proofs.Common.{◌≡◌, None, Ok, ap, subst}
use Rattle.refusals.specs.Refusals.{table_is_there}
use Rattle.part_ddl.specs.Tables.{name_faults}
use Rattle.history.specs.History.{History}
use Rattle.part_catalog.specs.Found.{resolved, taken_by}
use Rattle.part_catalog.specs.Stands.{CatalogueStands}
use Rattle.tx_table.specs.Stands.{TableStands}
use Rattle.stores.specs.declared.stores.Stores.{Stores}
use Rattle.statement_steps.specs.Steps.{IsStep}
use Rattle.statement_steps.proofs.Parts.{answered_done}
use Rattle.statement_steps.proofs.Steps.{goes, handed_on, stops}
use Rattle.table_statements.specs.Asked.{IsFree}
use Rattle.table_statements.specs.Claims.{name_tested, name_waited}
use Rattle.ddl_steps.specs.Refused.{unless_faults}
use Rattle.table_statements.proofs.Taken.{if_done}
use Rattle.ddl_steps.proofs.Firsts.{stops_first, none_first, none_there, answered_refused}
use Rattle.table_statements.proofs.claims.claim_name.Goals as goal
use Rattle.table_statements.proofs.claims.claim_name.Goals.{In_ok-check_name}

-- no table of the name is there
tests : (c : In_ok-check_name) → IsStep (λ (u : Unit {0}). u) (Ok tt) c.args.stores.now c.args.stores.now c.args.attempt.now.caller c.args.attempt.now.caller.cmd (name_tested c.args.attempt.now.caller.session c.args.name.now)
tests c =
    answered_done (λ (u : Unit {0}). u) tt c.args.stores.now c.args.attempt.now.caller (λ h. unless_faults (name_faults h c.args.attempt.now.caller.session c.args.name.now) (Ok tt)) c.requires.may
    (λ h stands. ap (λ fs. unless_faults fs (Ok tt)) (none_first (name_faults h c.args.attempt.now.caller.session c.args.name.now) tt (c.in_ok-check_name.ensures h stands.all.txs stands.all.catalog)))

pub returns-clause-step : goal.returns-clause-step
returns-clause-step c =
    goes (name_tested c.args.attempt.now.caller.session c.args.name.now) (λ u. name_waited c.args.attempt.now.names.now c.args.attempt.now.caller.session c.args.name.now) (tests (goal.at.returns-clause-step c).In_ok-check_name) c.wait_for_name.ensures.step

pub returns-in_err-check_name-clause-step : goal.returns-in_err-check_name-clause-step
returns-in_err-check_name-clause-step c =
    let s = c.args.attempt.now.caller.session in
    handed_on c.from_residual.ensures.1 (stops (name_tested s c.args.name.now) (λ u. name_waited c.args.attempt.now.names.now s c.args.name.now)
    (answered_refused (λ (u : Unit {0}). u) c.in_err-check_name.field-0.0 c.args.stores.now c.args.attempt.now.caller c.args.attempt.now.caller.cmd (λ h. unless_faults (name_faults h s c.args.name.now) (Ok tt)) c.requires.may
    (λ h stands. stops_first (λ (u : Unit {0}). u) c.in_err-check_name.field-0.0 (name_faults h s c.args.name.now) (Ok tt) tt (c.in_err-check_name.ensures h stands.all.txs stands.all.catalog))))

pub returns-clause-free : goal.returns-clause-free
returns-clause-free c =
    let s = c.args.attempt.now.caller.session in
    let name = c.args.name.now in
    let new = c.wait_for_name.new.stores in
    if_done c.wait_for_name.result (λ u. (h : History) → TableStands new.txs h → CatalogueStands new.catalog h → taken_by h s name ≡ None) (λ u. (h : History) → TableStands new.txs h → CatalogueStands new.catalog h → IsFree h s name)
    (λ u unclaimed h txs catalog.
    let old_txs : TableStands c.args.stores.now.txs h = subst (λ (x : Stores). TableStands x.txs h) c.wait_for_name.ensures.rest txs in
    let old_catalog : CatalogueStands c.args.stores.now.catalog h = subst (λ (x : Stores). CatalogueStands x.catalog h) c.wait_for_name.ensures.rest catalog in
    record { absent = none_there (resolved h s name) (table_is_there name) (none_first (name_faults h s name) tt (c.in_ok-check_name.ensures h old_txs old_catalog)); unclaimed = unclaimed h txs catalog })
    c.wait_for_name.ensures.unclaimed
