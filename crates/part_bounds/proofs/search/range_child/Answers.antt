use Rattle.std.proofs.Common.{◌≡◌, ◌∙◌, sym, false}
use Rattle.bound_forms.specs.Accepts.{has_null}
use Rattle.part_bounds.proofs.StoredLaws.{in_row}
use Rattle.part_bounds.proofs.FindLaws.{found, not_found, null_found, fits_key, splits_key, splits_row}
use Rattle.part_bounds.proofs.Strategies.{ranges_have_points}
use Rattle.bound_forms.specs.Points.{point_of}
use Rattle.part_bounds.proofs.search.range_child.Goals as goal

pub returns-then-has_null-clause-child : goal.returns-then-has_null-clause-child
returns-then-has_null-clause-child g c = null_found c.args.set.now (g.Q.Key.values c.args.key.now) c.requires.ranges (sym c.has_null.ensures ∙ c.if-has_null.true)

pub points_below-n-requires-clause-fits : goal.points_below-n-requires-clause-fits
points_below-n-requires-clause-fits g c = rw c.len.ensures (fits_key c.args.set.now (g.Q.Key.values c.args.key.now) c.requires.fits (sym c.has_null.ensures ∙ c.if-has_null.false))

pub returns-then-n-eq1-clause-child : goal.returns-then-n-eq1-clause-child
returns-then-n-eq1-clause-child g c =
    let null : has_null (g.Q.Key.values c.args.key.now) ≡ false = sym c.has_null.ensures ∙ c.if-has_null.false in
    found c.args.set.now (g.Q.Key.values c.args.key.now) c.points_below-n.result (in_row _ _ c.requires.ranges (rw c.set.view_is at c.set.invariant.0) (rw c.set.view_is at c.set.invariant.1)) null
    (splits_row c.args.set.now (point_of (g.Q.Key.values c.args.key.now)) c.points_below-n.result (in_row _ _ c.requires.ranges (rw c.set.view_is at c.set.invariant.0) (rw c.set.view_is at c.set.invariant.1)) (splits_key c.args.set.now (g.Q.Key.values c.args.key.now) c.points_below-n.result c.requires.fits null (rw c.len.ensures at c.points_below-n.ensures.points))) c.if-n-eq1.true

pub returns-clause-child : goal.returns-clause-child
returns-clause-child g c =
    let null : has_null (g.Q.Key.values c.args.key.now) ≡ false = sym c.has_null.ensures ∙ c.if-has_null.false in
    not_found c.args.set.now (g.Q.Key.values c.args.key.now) c.points_below-n.result (in_row _ _ c.requires.ranges (rw c.set.view_is at c.set.invariant.0) (rw c.set.view_is at c.set.invariant.1))
    (splits_row c.args.set.now (point_of (g.Q.Key.values c.args.key.now)) c.points_below-n.result (in_row _ _ c.requires.ranges (rw c.set.view_is at c.set.invariant.0) (rw c.set.view_is at c.set.invariant.1)) (splits_key c.args.set.now (g.Q.Key.values c.args.key.now) c.points_below-n.result c.requires.fits null (rw c.len.ensures at c.points_below-n.ensures.points))) c.if-n-eq1.false

pub points_below-n-requires-clause-level : goal.points_below-n-requires-clause-level
points_below-n-requires-clause-level g c = ranges_have_points c.args.set.now c.requires.ranges
