use Rattle.std.proofs.Common.{◌+◌, ◌*◌}
use Rattle.sql_ast.specs.Expressions.{tree}
use Rattle.expression_binder.proofs.Trees.{weight}
use Rattle.sql_binder.proofs.same.+same.Given as goal

abbrev pub decreases-same : goal.decreases-same
decreases-same l = 2 * weight (tree l.e.now) + 1

abbrev pub decreases-is_negated : goal.decreases-is_negated
decreases-is_negated l = 2 * weight (tree l.part.now) + 2

abbrev pub decreases-is_binary : goal.decreases-is_binary
decreases-is_binary l = 2 * (weight (tree l.left.now) + weight (tree l.right.now)) + 2
