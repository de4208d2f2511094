use Rattle.std.proofs.Common.{◌≡◌, ◌+◌, ◌*◌, map, drop}
use Rattle.cond_logic.specs.Trees.{cond_tree, listed}
use Rattle.plan_tree.proofs.Weights.{weight, weights}
use Rattle.plan_tree.specs.Parameters.{have_parameter}
use Rattle.plan_tree.proofs.parameters.+opening.Given as goal

abbrev pub decreases-has_parameter : goal.decreases-has_parameter
decreases-has_parameter l = 2 * weight (cond_tree l.cond.now)

abbrev pub decreases-some_has_parameter : goal.decreases-some_has_parameter
decreases-some_has_parameter l = 2 * weights (listed (map cond_tree l.conds.now)) + 1

-- none so far has one
abbrev pub invariant-some_has_parameter-loop-cond : goal.invariant-some_has_parameter-loop-cond
invariant-some_has_parameter-loop-cond l = have_parameter (listed (map cond_tree (drop l.cond-index l.conds))) ≡ have_parameter (listed (map cond_tree l.conds))
