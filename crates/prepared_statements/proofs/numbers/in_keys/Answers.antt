use Rattle.std.proofs.Common.{refl}
use Rattle.std.specs.List.{flat_map}
use Rattle.sql_ast.specs.Queries.{key_tree}
use Rattle.prepared_statements.specs.Numbers.{key_numbers}
use Rattle.prepared_statements.proofs.Greatest.{part_passed}
use Rattle.prepared_statements.proofs.numbers.in_keys.Goals as goal

pub loop-key-preserved : goal.loop-key-preserved
loop-key-preserved c =
    part_passed key_tree (flat_map key_numbers) key_numbers (λ x xs. refl) c.args.keys.now c.loop-key.key-index c.key-item.result c.loop-key-test.true c.key-item.is
    c.loop-key.most c.in_expr.result _ _ c.loop-key.invariant c.in_expr.ensures c.greater-most.ensures
