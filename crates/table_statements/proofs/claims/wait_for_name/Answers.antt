use Rattle.std.proofs.Common.{◌≡◌, ◌∙◌, false, None, ap, sym, subst}
use Rattle.pg_values.specs.Sets.{has}
use Rattle.pg_values.specs.declared.session_set.SessionSet.{SessionSet}
use Rattle.history.specs.History.{History}
use Rattle.history.specs.declared.wait.WaitOn.TheVariants.{Ends}
use Rattle.part_catalog.specs.Found.{taken_by}
use Rattle.part_catalog.specs.Stands.{CatalogueStands}
use Rattle.tx_table.specs.Stands.{TableStands}
use Rattle.statement_steps.specs.Asks.{waited}
use Rattle.statement_steps.proofs.Parts.{nothing_done}
use Rattle.statement_steps.proofs.Steps.{moved, same_step}
use Rattle.table_statements.specs.Claims.{name_waited, waits_for_end, waits_if_taken}
use Rattle.table_statements.proofs.Taken.{is_seat, taken_by_another, taken_is_open, never_done, only_others}
use Rattle.table_statements.proofs.claims.wait_for_name.Goals as goal

pub returns-in-None-clause-step : goal.returns-in-None-clause-step
returns-in-None-clause-step c =
    nothing_done (λ (u : Unit {0}). u) tt c.args.stores.now c.args.attempt.now.caller (name_waited c.args.attempt.now.names.now c.args.attempt.now.caller.session c.args.name.now) c.requires.may
    (λ h stands. ap (λ o. waits_if_taken c.args.attempt.now.names.now c.args.attempt.now.caller.session o h) (sym (c.name_taken_by.ensures h stands.all.txs stands.all.catalog) ∙ c.in-None.is))

pub returns-in-None-clause-unclaimed : goal.returns-in-None-clause-unclaimed
returns-in-None-clause-unclaimed c = λ h txs catalog. sym (c.name_taken_by.ensures h txs catalog) ∙ c.in-None.is

pub wait_for-requires-clause-others : goal.wait_for-requires-clause-others
wait_for-requires-clause-others c =
    let h = c.requires.may.sound.0 in
    let stands = c.requires.may.sound.1 in
    let another = taken_by_another h c.args.attempt.now.caller.session c.args.name.now c.in-Some.other stands.all.txs.sound stands.good (sym (c.name_taken_by.ensures h stands.all.txs stands.all.catalog) ∙ c.in-Some.is) in
    subst (λ (s : SessionSet). has s c.args.attempt.now.caller.session ≡ false) (sym c.only-set.ensures) (only_others c.in-Some.other c.args.attempt.now.caller.session (λ same. another (sym same)))

pub only-set-requires : goal.only-set-requires
only-set-requires c =
    let h = c.requires.may.sound.0 in
    let stands = c.requires.may.sound.1 in
    let opened = taken_is_open h c.args.attempt.now.caller.session c.args.name.now c.in-Some.other stands.all.txs.sound stands.good (sym (c.name_taken_by.ensures h stands.all.txs stands.all.catalog) ∙ c.in-Some.is) in
    is_seat c.args.stores.now c.args.attempt.now.caller h c.in-Some.other opened.0 c.requires.may stands opened.1

pub returns-in-Some-clause-step : goal.returns-in-Some-clause-step
returns-in-Some-clause-step c =
    same_step (λ (u : Unit {0}). u) c.wait_for.result c.args.stores.now c.wait_for.new.stores c.args.attempt.now.caller c.args.attempt.now.caller.cmd (name_waited c.args.attempt.now.names.now c.args.attempt.now.caller.session c.args.name.now) (waits_for_end c.args.attempt.now.names.now c.args.attempt.now.caller.session c.in-Some.other)
    (λ h stands. ap (λ o. waits_if_taken c.args.attempt.now.names.now c.args.attempt.now.caller.session o h) (sym (c.name_taken_by.ensures h stands.all.txs stands.all.catalog) ∙ c.in-Some.is))
    (moved (λ (o : SessionSet). waited c.args.attempt.now.names.now c.args.attempt.now.caller.session (Ends o) None) _ _ c.only-set.ensures c.wait_for.ensures.step)

pub returns-in-Some-clause-unclaimed : goal.returns-in-Some-clause-unclaimed
returns-in-Some-clause-unclaimed c =
    let h = c.requires.may.sound.0 in
    let stands = c.requires.may.sound.1 in
    let opened = taken_is_open h c.args.attempt.now.caller.session c.args.name.now c.in-Some.other stands.all.txs.sound stands.good (sym (c.name_taken_by.ensures h stands.all.txs stands.all.catalog) ∙ c.in-Some.is) in
    never_done c.args.attempt.now.names.now c.wait_for.result c.args.stores.now c.wait_for.new.stores c.args.attempt.now.caller c.in-Some.other
    (λ u. (h : History) → TableStands c.wait_for.new.stores.txs h → CatalogueStands c.wait_for.new.stores.catalog h → taken_by h c.args.attempt.now.caller.session c.args.name.now ≡ None) c.requires.may (is_seat c.args.stores.now c.args.attempt.now.caller h c.in-Some.other opened.0 c.requires.may stands opened.1)
    (moved (λ (o : SessionSet). waited c.args.attempt.now.names.now c.args.attempt.now.caller.session (Ends o) None) _ _ c.only-set.ensures c.wait_for.ensures.step)
