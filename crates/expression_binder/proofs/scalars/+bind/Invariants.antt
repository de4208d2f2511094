use Rattle.std.proofs.Common.{◌+◌, ◌*◌, map}
use Rattle.sql_ast.specs.Expressions.{listed, tree}
use Rattle.expression_binder.proofs.Trees.{weight, weights}
use Rattle.expression_binder.proofs.scalars.+bind.Given as goal

abbrev pub decreases-bind_typed : goal.decreases-bind_typed
decreases-bind_typed l = 4 * weight (tree l.e.now)

abbrev pub decreases-bind_scalar : goal.decreases-bind_scalar
decreases-bind_scalar l = 4 * weight (tree l.e.now) + 1

abbrev pub decreases-bind_beside : goal.decreases-bind_beside
decreases-bind_beside l = 4 * weight (tree l.e.now) + 1

abbrev pub decreases-bind_leaf_beside : goal.decreases-bind_leaf_beside
decreases-bind_leaf_beside l = 4 * weight (tree l.y.now) + 2

abbrev pub decreases-bind_sides : goal.decreases-bind_sides
decreases-bind_sides l = 4 * (weight (tree l.x.now) + weight (tree l.y.now)) + 2

abbrev pub decreases-bind_binary : goal.decreases-bind_binary
decreases-bind_binary l = 4 * (weight (tree l.x.now) + weight (tree l.y.now)) + 3

abbrev pub decreases-first_argument : goal.decreases-first_argument
decreases-first_argument l = 4 * weights (listed (map tree l.arguments.now)) + 2

abbrev pub decreases-bind_call : goal.decreases-bind_call
decreases-bind_call l = 4 * weights (listed (map tree l.arguments.now)) + 3
