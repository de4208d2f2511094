use Rattle.std.proofs.Common.{◌≡◌, drop}
use Rattle.bound_forms.specs.Points.{point_order, point_of, PointsFit}
use Rattle.bound_forms.proofs.point.cmp_key.Given as goal

-- the edges so far are equal, so the rests decide
abbrev pub invariant-loop-i : goal.invariant-loop-i
invariant-loop-i g l =
    let key = point_of (g.Q.Key.values l.key) in
    record {
      rest : point_order (drop l.i l.edge-items) (drop l.i key) ≡ point_order l.point key;
      fit : PointsFit (drop l.i l.edge-items) (drop l.i key);
    }
