use Rattle.std.proofs.Common.{◌∙◌, ap, option_map, sym}
use Rattle.pg_values.specs.declared.ids.TableNo.{TableNo}
use Rattle.statement_steps.proofs.Parts.{found_below}
use Rattle.statement_runs.proofs.executing.columns_named.Goals as goal

pub table-requires : goal.table-requires
table-requires c =
    let h = c.requires.sound.0 in
    let stands = c.requires.sound.1 in
    found_below c.args.stores.now h c.args.attempt.now.caller.session c.in-Some.table.number c.args.name.now stands
    (sym (c.resolve.ensures h stands.all.txs stands.all.catalog) ∙ ap (option_map (λ (t : TableNo). t.number)) c.in-Some.is)
