use Rattle.std.proofs.Common.{◌≡◌, ◌+◌, ◌*◌, ◌++◌, map, drop}
use Rattle.cond_logic.specs.Trees.{cond_tree, listed}
use Rattle.plan_tree.proofs.Weights.{weight, weights}
use Rattle.plan_text.specs.Conditions.{all_conjuncts, choices}
use Rattle.plan_text.proofs.conditions.+telling.Given as goal

abbrev pub decreases-push_conjuncts : goal.decreases-push_conjuncts
decreases-push_conjuncts l = 5 * weight (cond_tree l.cond.now)

abbrev pub decreases-whole : goal.decreases-whole
decreases-whole l = 5 * weight (cond_tree l.cond.now) + 1

abbrev pub decreases-inverted : goal.decreases-inverted
decreases-inverted l = 5 * weight (cond_tree l.cond.now) + 2

abbrev pub decreases-push_all : goal.decreases-push_all
decreases-push_all l = 5 * weights (listed (map cond_tree l.parts.now)) + 1

abbrev pub decreases-push_choices : goal.decreases-push_choices
decreases-push_choices l = 5 * weights (listed (map cond_tree l.parts.now)) + 2

abbrev pub decreases-either : goal.decreases-either
decreases-either l = 5 * weights (listed (map cond_tree l.parts.now)) + 3

-- the texts so far, and those of the parts that are left
abbrev pub invariant-push_all-loop-part : goal.invariant-push_all-loop-part
invariant-push_all-loop-part l =
    l.out.items ++ all_conjuncts l.items (listed (map cond_tree (drop l.part-index l.parts))) ≡ l.fn.out.items ++ all_conjuncts l.items (listed (map cond_tree l.parts))

abbrev pub invariant-push_choices-loop-part : goal.invariant-push_choices-loop-part
invariant-push_choices-loop-part l =
    l.out.items ++ choices l.items (listed (map cond_tree (drop l.part-index l.parts))) ≡ l.fn.out.items ++ choices l.items (listed (map cond_tree l.parts))
