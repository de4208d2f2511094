use Rattle.std.proofs.Common.{◌≡◌, sym, ap, ◌∙◌, Some, option_map}
use Rattle.history.specs.History.{History}
use Rattle.part_catalog.specs.Found.{resolved}
use Rattle.stores.specs.Stand.{Stands}
use Rattle.pg_values.specs.declared.ids.TableNo.{TableNo}
use Rattle.statement_steps.proofs.Parts.{found_below, found_known, none_found, known_by}
use Rattle.statement_steps.proofs.names.find_table.Goals as goal

meant : (c : goal.In-Some) (h : History) → Stands c.args.stores.now h → resolved h c.args.attempt.now.caller.session c.args.name.now ≡ Some c.in-Some.table.number
meant c h stands = sym (c.resolve.ensures h stands.all.txs stands.all.catalog) ∙ ap (option_map (λ (t : TableNo). t.number)) c.in-Some.is

pub returns-in-Some-clause-known : goal.returns-in-Some-clause-known
returns-in-Some-clause-known c =
    let h = c.requires.sound.0 in
    let stands = c.requires.sound.1 in
    known_by c.args.stores.now h c.args.attempt.now.caller.session c.in-Some.table.number stands (found_below c.args.stores.now h c.args.attempt.now.caller.session c.in-Some.table.number c.args.name.now stands (meant c h stands))
    (found_known c.args.stores.now c.args.attempt.now.caller h c.in-Some.table.number c.args.name.now c.named_is_there.ensures c.requires stands (meant c h stands))

pub returns-in_ok-no_table-in-None-clause-step : goal.returns-in_ok-no_table-in-None-clause-step
returns-in_ok-no_table-in-None-clause-step c =
    none_found c.args.stores.now c.args.attempt.now.caller c.args.name.now c.in_ok-no_table-in-None.field-0 c.in_ok-no_table-in-None.ensures c.requires
    (λ h stands. sym (c.resolve.ensures h stands.all.txs stands.all.catalog) ∙ ap (option_map (λ (t : TableNo). t.number)) c.in-None.is)
