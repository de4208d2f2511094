use Rattle.std.proofs.Common.{◌≡◌, take}
use Rattle.part_bounds.proofs.bound_set.copy_bounds.Given as goal

-- the bounds so far are copied
abbrev pub invariant-loop-b : goal.invariant-loop-b
invariant-loop-b l = l.copies.items ≡ take l.b-index l.bounds
