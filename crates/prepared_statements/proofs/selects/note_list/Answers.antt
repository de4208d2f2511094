use Rattle.std.proofs.Common.{refl, arith}
use Rattle.sql_ast.specs.Queries.{item_tree}
use Rattle.prepared_statements.specs.StatementPlaces.{listed_places, list_places}
use Rattle.prepared_statements.proofs.Loops.{part_noted, all_noted}
use Rattle.prepared_statements.proofs.selects.note_list.Goals as goal

pub loop-listed-preserved : goal.loop-listed-preserved
loop-listed-preserved c =
    part_noted item_tree (list_places c.args.names.now c.args.givens.now) (listed_places c.args.names.now c.args.givens.now) (λ x xs. refl) _ _ c.args.list.now c.loop-listed.listed-index c.listed-item.result _ c.loop-listed-test.true
    c.listed-item.is c.loop-listed.invariant c.note_listed.ensures

pub returns : goal.returns
returns c = all_noted item_tree (list_places c.args.names.now c.args.givens.now) refl c.loop-listed.firsts _ c.args.list.now c.loop-listed.listed-index (omega (arith, c.loop-listed-test.false)) c.loop-listed.invariant
