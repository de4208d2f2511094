use Rattle.std.proofs.Common.{List, ℕ, sym, subst}
use Rattle.history.specs.History.{History}
use Rattle.tx_table.specs.Stands.{TableStands}
use Rattle.part_catalog.specs.Stands.{CatalogueStands}
use Rattle.statement_steps.specs.Asks.{held_at}
use Rattle.statement_steps.proofs.Steps.{goes, handed_on, may_go_on, moved, out_behind, stops}
use Rattle.table_statements.specs.Asked.{IsFree, MayBeMade}
use Rattle.table_statements.specs.Claims.{name_claimed}
use Rattle.table_statements.specs.Seen.{seen_plan}
use Rattle.table_statements.specs.Tables as tables
use Rattle.table_statements.proofs.tables.create_table.Goals as goal

pub claim_name-requires : goal.claim_name-requires
claim_name-requires c = record { may = may_go_on _ _ _ _ _ _ c.requires c.in_ok-hold_if_repeatable.ensures.step }

pub planned-requires : goal.planned-requires
planned-requires c = may_go_on _ _ _ _ _ _ (may_go_on _ _ _ _ _ _ c.requires c.in_ok-hold_if_repeatable.ensures.step) c.in_ok-claim_name.ensures.step

pub make_planned-requires-clause-may : goal.make_planned-requires-clause-may
make_planned-requires-clause-may c = may_go_on _ _ _ _ _ _ (may_go_on _ _ _ _ _ _ c.requires c.in_ok-hold_if_repeatable.ensures.step) c.in_ok-claim_name.ensures.step

pub make_planned-requires-clause-free : goal.make_planned-requires-clause-free
make_planned-requires-clause-free c =
    let s = c.args.attempt.now.caller.session in
    subst (λ (n : List ℕ). (h : History) → TableStands c.claim_name.new.stores.txs h → CatalogueStands c.claim_name.new.stores.catalog h → MayBeMade h s n) (sym c.in_ok-copy.ensures)
    (λ h txs catalog. record { free = subst (λ (n : List ℕ). IsFree h s n) c.as_bytes.ensures (c.in_ok-claim_name.ensures.free h txs catalog); few = c.in_ok-plan.ensures.few h catalog })

pub returns-in_err-claim_name : goal.returns-in_err-claim_name
returns-in_err-claim_name c =
    let names = c.args.attempt.now.names.now in
    let caller = c.args.attempt.now.caller in
    let name = c.args.name.now in
    handed_on c.from_residual-in_err-claim_name.ensures.1
    (goes (held_at caller.level caller.session caller.cmd) (λ u. tables.claimed_and_made names caller name c.args.columns.now c.args.by.now) c.in_ok-hold_if_repeatable.ensures.step
    (stops (name_claimed names caller.session name) (λ u. tables.planned_and_made caller name c.args.columns.now c.args.by.now) (moved (name_claimed names caller.session) _ _ c.as_bytes.ensures c.in_err-claim_name.ensures.step)))

pub returns-in_err-plan : goal.returns-in_err-plan
returns-in_err-plan c =
    let names = c.args.attempt.now.names.now in
    let caller = c.args.attempt.now.caller in
    let name = c.args.name.now in
    handed_on c.from_residual-in_err-plan.ensures.1
    (goes (held_at caller.level caller.session caller.cmd) (λ u. tables.claimed_and_made names caller name c.args.columns.now c.args.by.now) c.in_ok-hold_if_repeatable.ensures.step
    (goes (name_claimed names caller.session name) (λ u. tables.planned_and_made caller name c.args.columns.now c.args.by.now) (moved (name_claimed names caller.session) _ _ c.as_bytes.ensures c.in_ok-claim_name.ensures.step)
    (stops (tables.planned c.args.columns.now c.args.by.now) (tables.table_made caller name) c.in_err-plan.ensures.step)))

pub returns-in_err-copy : goal.returns-in_err-copy
returns-in_err-copy c =
    let names = c.args.attempt.now.names.now in
    let caller = c.args.attempt.now.caller in
    goes (held_at caller.level caller.session caller.cmd) (λ u. tables.claimed_and_made names caller c.args.name.now c.args.columns.now c.args.by.now) c.in_ok-hold_if_repeatable.ensures.step
    (out_behind c.from_residual-in_err-copy.ensures.1 c.in_ok-claim_name.ensures.step)

pub returns : goal.returns
returns c =
    let names = c.args.attempt.now.names.now in
    let caller = c.args.attempt.now.caller in
    let name = c.args.name.now in
    goes (held_at caller.level caller.session caller.cmd) (λ u. tables.claimed_and_made names caller name c.args.columns.now c.args.by.now) c.in_ok-hold_if_repeatable.ensures.step
    (goes (name_claimed names caller.session name) (λ u. tables.planned_and_made caller name c.args.columns.now c.args.by.now) (moved (name_claimed names caller.session) _ _ c.as_bytes.ensures c.in_ok-claim_name.ensures.step)
    (goes (tables.planned c.args.columns.now c.args.by.now) (tables.table_made caller name) c.in_ok-plan.ensures.step
    (moved (λ n. tables.table_made caller n (seen_plan c.in_ok-plan.plan)) _ _ c.in_ok-copy.ensures c.make_planned.ensures)))
