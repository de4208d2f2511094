use Rattle.std.proofs.Common.{refl}
use Rattle.std.specs.List.{flat_map}
use Rattle.sql_ast.specs.Queries.{item_tree}
use Rattle.prepared_statements.specs.Numbers.{item_numbers}
use Rattle.prepared_statements.proofs.Greatest.{part_passed}
use Rattle.prepared_statements.proofs.numbers.in_items.Goals as goal

pub loop-item-preserved : goal.loop-item-preserved
loop-item-preserved c =
    part_passed item_tree (flat_map item_numbers) item_numbers (λ x xs. refl) c.args.items.now c.loop-item.item-index c.item-item.result c.loop-item-test.true c.item-item.is
    c.loop-item.most c.in_item.result _ _ c.loop-item.invariant c.in_item.ensures c.greater-most.ensures
