use Rattle.std.proofs.Common.{refl, ap, ◌∙◌}
use Rattle.std.specs.List.{flat_map}
use Rattle.sql_ast.specs.Expressions.{trees}
use Rattle.prepared_statements.specs.Numbers.{all_numbers, greatest_of}
use Rattle.prepared_statements.proofs.Greatest.{part_passed}
use Rattle.prepared_statements.proofs.numbers.in_rows.Goals as goal

pub loop-row-preserved : goal.loop-row-preserved
loop-row-preserved c =
    part_passed trees (flat_map all_numbers) all_numbers (λ x xs. refl) c.args.rows.now c.loop-row.row-index c.row-item.result c.loop-row-test.true c.row-item.is
    c.loop-row.most c.in_exprs.result _ _ c.loop-row.invariant (c.in_exprs.ensures ∙ ap (λ ts. greatest_of (all_numbers ts)) c.as_slice.ensures) c.greater-most.ensures
