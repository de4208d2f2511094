use Rattle.std.proofs.Common.{◌≡◌, ◌+◌, ◌*◌, map}
use Rattle.cond_logic.specs.Trees.{cond_tree, listed}
use Rattle.prune_steps.specs.Asking.{asked_by}
use Rattle.prune_steps.specs.Atoms.{first_given}
use Rattle.prune_steps.proofs.CondTrees.{weight, weights}
use Rattle.prune_steps.proofs.KnownTrees.{rest, whole}
use Rattle.prune_steps.proofs.known.+lending.Given as goal

abbrev pub decreases-known_given : goal.decreases-known_given
decreases-known_given l = 2 * weight (cond_tree l.cond.now)

abbrev pub decreases-first_known : goal.decreases-first_known
decreases-first_known l = 2 * weights (listed (map cond_tree l.parts.now)) + 1

-- no part so far gives a value
abbrev pub invariant-first_known-loop-part : goal.invariant-first_known-loop-part
invariant-first_known-loop-part l = first_given (asked_by l.asking) l.nulls (rest l.asking l.parts l.part-index) l.j ≡ first_given (asked_by l.asking) l.nulls (whole l.asking l.parts) l.j
