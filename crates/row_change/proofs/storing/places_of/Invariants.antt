use Rattle.std.proofs.Common.{take}
use Rattle.row_change.specs.Places.{ArePlaces}
use Rattle.row_change.proofs.storing.places_of.Given as goal

-- of the targets so far the places are known
abbrev pub invariant-loop-place : goal.invariant-loop-place
invariant-loop-place l = ArePlaces l.places (take l.place l.targets)
