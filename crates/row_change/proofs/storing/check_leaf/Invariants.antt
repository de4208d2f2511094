use Rattle.std.proofs.Common.{◌≡◌, drop, find}
use Rattle.row_change.specs.Storing.{is_into}
use Rattle.row_change.proofs.storing.check_leaf.Given as goal

-- no target so far is of the leaf
abbrev pub invariant-loop-target : goal.invariant-loop-target
invariant-loop-target l = find (is_into l.leaf) (drop l.target-index l.targets) ≡ find (is_into l.leaf) l.targets
