use Rattle.std.proofs.Common.{◌≡◌, ◌+◌, ◌*◌, map, drop}
use Rattle.sql_ast.specs.Expressions.{listed, tree}
use Rattle.expression_binder.proofs.Trees.{weight, weights}
use Rattle.table_binder.specs.Values.{values_faults}
use Rattle.table_binder.proofs.values.+check.Given as goal

abbrev pub decreases-check_inner : goal.decreases-check_inner
decreases-check_inner l = 4 * weight (tree l.e.now)

abbrev pub decreases-check_typed : goal.decreases-check_typed
decreases-check_typed l = 4 * weight (tree l.e.now) + 1

abbrev pub decreases-check_value : goal.decreases-check_value
decreases-check_value l = 4 * weight (tree l.e.now) + 2

abbrev pub decreases-check_both : goal.decreases-check_both
decreases-check_both l = 4 * (weight (tree l.x.now) + weight (tree l.y.now)) + 3

abbrev pub decreases-check_values : goal.decreases-check_values
decreases-check_values l = 4 * weights (listed (map tree l.parts.now)) + 3

-- no part so far has a fault
abbrev pub invariant-check_values-loop-part : goal.invariant-check_values-loop-part
invariant-check_values-loop-part l = values_faults (listed (map tree (drop l.part-index l.parts))) ≡ values_faults (listed (map tree l.parts))
