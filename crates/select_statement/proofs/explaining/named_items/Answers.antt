use Rattle.sql_ast.specs.Queries.{joined_tree}
use Rattle.row_router.specs.Seen.{seen}
use Rattle.select_statement.proofs.Scopes.{one_named}
use Rattle.select_statement.proofs.explaining.named_items.Goals as goal

pub loop-place-preserved : goal.loop-place-preserved
loop-place-preserved c =
    one_named joined_tree seen c.args.from_items.now c.args.trees.now c.loop-place.place c.index-from_items-place.result c.index-trees-place.result _ _ _ c.loop-place-test.true c.requires c.index-from_items-place.is c.index-trees-place.is c.in_ok-named_item.ensures c.in_ok-push.ensures.items c.loop-place.invariant
