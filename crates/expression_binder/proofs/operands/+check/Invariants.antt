use Rattle.std.proofs.Common.{◌≡◌, ◌+◌, ◌*◌, map, drop}
use Rattle.sql_ast.specs.Expressions.{listed, tree}
use Rattle.expression_binder.specs.Operands.{operands_faults}
use Rattle.expression_binder.proofs.Trees.{weight, weights}
use Rattle.expression_binder.proofs.operands.+check.Given as goal

abbrev pub decreases-check_inner : goal.decreases-check_inner
decreases-check_inner l = 4 * weight (tree l.e.now)

abbrev pub decreases-check_typed : goal.decreases-check_typed
decreases-check_typed l = 4 * weight (tree l.e.now) + 1

abbrev pub decreases-check_operand : goal.decreases-check_operand
decreases-check_operand l = 4 * weight (tree l.e.now) + 2

abbrev pub decreases-check_operands : goal.decreases-check_operands
decreases-check_operands l = 4 * weights (listed (map tree l.parts.now)) + 3

-- no part so far has a fault
abbrev pub invariant-check_operands-loop-part : goal.invariant-check_operands-loop-part
invariant-check_operands-loop-part l = operands_faults l.names (listed (map tree (drop l.part-index l.parts))) ≡ operands_faults l.names (listed (map tree l.parts))
