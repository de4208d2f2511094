use Rattle.std.proofs.Common.{◌≡◌, ℕ, ◌-◌, ◌<◌, false, length, get_or}
use Rattle.bound_forms.specs.declared.partition_bound.Bound.{Bound}
use Rattle.bound_forms.specs.Accepts.{leaves_remainder}
use Rattle.part_bounds.proofs.remainder.remainder_child.Given as goal

-- no remainder so far is left
abbrev pub invariant-loop-from : goal.invariant-loop-from
invariant-loop-from l = (k : ℕ) (d : Bound) → k < l.from → leaves_remainder l.hash (get_or l.bounds k d) ≡ false

abbrev pub decreases-loop-from : goal.decreases-loop-from
decreases-loop-from l = length l.bounds - l.from
