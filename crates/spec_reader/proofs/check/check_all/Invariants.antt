use Rattle.std.proofs.Common.{◌≡◌, take, drop}
use Rattle.spec_reader.specs.Faults.{first_behind, first_told}
use Rattle.spec_reader.proofs.check.check_all.Given as goal

-- nothing is told of the items so far
abbrev pub invariant-loop-i : goal.invariant-loop-i
invariant-loop-i g l = first_behind (g.C.Check.finds l.check) (take l.i l.items) (drop l.i l.items) ≡ first_told (g.C.Check.finds l.fn.check) l.fn.items
