use Rattle.std.proofs.Common.{◌≡◌, ◌+◌, ◌*◌, map, drop}
use Rattle.sql_ast.specs.Expressions.{listed, tree}
use Rattle.expression_binder.specs.Conditions.{part_faults}
use Rattle.expression_binder.proofs.Trees.{weight, weights}
use Rattle.expression_binder.proofs.conditions.+check.Given as goal

abbrev pub decreases-check_condition : goal.decreases-check_condition
decreases-check_condition l = 2 * weight (tree l.e.now)

abbrev pub decreases-check_parts : goal.decreases-check_parts
decreases-check_parts l = 2 * weights (listed (map tree l.parts.now)) + 1

-- no part so far has a fault
abbrev pub invariant-check_parts-loop-part : goal.invariant-check_parts-loop-part
invariant-check_parts-loop-part l = part_faults l.names (listed (map tree (drop l.part-index l.parts))) ≡ part_faults l.names (listed (map tree l.parts))
