use Rattle.std.proofs.Common.{◌≡◌, drop}
use Rattle.bound_forms.specs.Points.{point_order, PointsFit}
use Rattle.bound_forms.proofs.point.cmp_points.Given as goal

-- the edges so far are equal, so the rests decide
abbrev pub invariant-loop-i : goal.invariant-loop-i
invariant-loop-i g l = record {
  rest : point_order (drop l.i l.edge-items) (drop l.i l.b) ≡ point_order l.a l.b;
  fit : PointsFit (drop l.i l.edge-items) (drop l.i l.b);
}
