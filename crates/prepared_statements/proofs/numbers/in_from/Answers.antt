use Rattle.std.proofs.Common.{refl}
use Rattle.std.specs.List.{flat_map}
use Rattle.sql_ast.specs.Queries.{joined_tree}
use Rattle.prepared_statements.specs.Numbers.{joined_numbers}
use Rattle.prepared_statements.proofs.Greatest.{part_passed}
use Rattle.prepared_statements.proofs.numbers.in_from.Goals as goal

pub loop-table-preserved : goal.loop-table-preserved
loop-table-preserved c =
    part_passed joined_tree (flat_map joined_numbers) joined_numbers (λ x xs. refl) c.args.tables.now c.loop-table.table-index c.table-item.result c.loop-table-test.true c.table-item.is
    c.loop-table.most c.in_maybe.result _ _ c.loop-table.invariant c.in_maybe.ensures c.greater-most.ensures
