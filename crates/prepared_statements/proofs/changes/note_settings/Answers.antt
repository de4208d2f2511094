use Rattle.std.proofs.Common.{refl, arith}
use Rattle.sql_ast.specs.Queries.{setting}
use Rattle.prepared_statements.specs.StatementPlaces.{setting_places, settings_places}
use Rattle.prepared_statements.proofs.Loops.{part_noted, all_noted}
use Rattle.prepared_statements.proofs.changes.note_settings.Goals as goal

pub loop-assignment-preserved : goal.loop-assignment-preserved
loop-assignment-preserved c =
    part_noted setting (settings_places c.args.item.now c.args.givens.now) (setting_places c.args.item.now c.args.givens.now) (λ w ws. refl) _ _ c.args.settings.now c.loop-assignment.assignment-index c.assignment-item.result _
    c.loop-assignment-test.true c.assignment-item.is c.loop-assignment.invariant c.note_setting.ensures

pub returns : goal.returns
returns c =
    all_noted setting (settings_places c.args.item.now c.args.givens.now) refl c.loop-assignment.firsts _ c.args.settings.now c.loop-assignment.assignment-index (omega (arith, c.loop-assignment-test.false)) c.loop-assignment.invariant
