use Rattle.std.proofs.Common.{refl}
use Rattle.std.specs.List.{flat_map}
use Rattle.sql_ast.specs.Queries.{setting}
use Rattle.prepared_statements.specs.Numbers.{setting_numbers}
use Rattle.prepared_statements.proofs.Greatest.{part_passed}
use Rattle.prepared_statements.proofs.numbers.in_settings.Goals as goal

pub loop-assignment-preserved : goal.loop-assignment-preserved
loop-assignment-preserved c =
    part_passed setting (flat_map setting_numbers) setting_numbers (λ x xs. refl) c.args.settings.now c.loop-assignment.assignment-index c.assignment-item.result c.loop-assignment-test.true c.assignment-item.is
    c.loop-assignment.most c.in_expr.result _ _ c.loop-assignment.invariant c.in_expr.ensures c.greater-most.ensures
