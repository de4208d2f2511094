use Rattle.std.proofs.Common.{arith}
use Rattle.sql_ast.specs.Queries.{joined_tree}
use Rattle.row_router.specs.Seen.{seen}
use Rattle.select_statement.proofs.Scopes.{one_item}
use Rattle.select_statement.proofs.items.items_of.Goals as goal

pub overflow_add-number : goal.overflow_add-number
overflow_add-number c = let low = c.loop-place.invariant.low in let lt = c.loop-place-test.true in let few = c.requires.few in let each = c.requires.each in omega (arith, low, lt, few, each)

pub loop-place-preserved : goal.loop-place-preserved
loop-place-preserved c = record {
  low = let low = c.loop-place.invariant.low in omega (arith, low);
  told = one_item joined_tree seen c.args.from_items.now c.args.trees.now c.loop-place.place c.index-from_items-place.result c.index-trees-place.result _ _ c.loop-place.number _ c.loop-place-test.true c.requires.each c.index-from_items-place.is c.index-trees-place.is c.in_ok-item_of.ensures c.in_ok-push.ensures.items c.loop-place.invariant.told;
}
