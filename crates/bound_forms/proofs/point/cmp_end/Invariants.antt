use Rattle.std.proofs.Common.{◌≡◌, drop, length}
use Rattle.bound_forms.specs.Points.{point_order, PointsFit, end_of}
use Rattle.bound_forms.proofs.point.cmp_end.Given as goal

-- the edges so far are equal, so the rests decide
abbrev pub invariant-loop-i : goal.invariant-loop-i
invariant-loop-i g l =
    let end = end_of (length l.point) l.n l.fill (g.Q.Key.values l.key) in
    record {
      rest : point_order (drop l.i l.edge-items) (drop l.i end) ≡ point_order l.point end;
      fit : PointsFit (drop l.i l.edge-items) (drop l.i end);
    }
