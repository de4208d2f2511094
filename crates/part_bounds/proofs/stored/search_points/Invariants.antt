use Rattle.std.proofs.Common.{◌-◌}
use Rattle.part_bounds.specs.Stored.{stored, width, passes, TellsEqual}
use Rattle.bound_forms.specs.Points.{end_of}
use Rattle.part_bounds.proofs.Halves.{Stands}
use Rattle.part_bounds.proofs.stored.search_points.Given as goal

-- the points before low pass, those from high on do not, each step halves the rest; and whether the last one before low is equal
abbrev pub invariant-loop-low : goal.invariant-loop-low
invariant-loop-low g l = record {
  stands : Stands (passes l.or_equal (end_of (width l.set) l.n l.fill (g.Q.Key.values l.key))) (stored l.set) l.low l.high l.initial.steps l.steps;
  tells : TellsEqual (stored l.set) (end_of (width l.set) l.n l.fill (g.Q.Key.values l.key)) l.low l.equal;
}

abbrev pub decreases-loop-low : goal.decreases-loop-low
decreases-loop-low g l = l.high - l.low
