use Rattle.std.proofs.Common.{◌≡◌, sym, ap, subst, ◌∙◌, [], length, get_or, arith, refl, Vec, Global}
use Rattle.std.specs.List.{All}
use Rattle.bound_forms.specs.Points.{EdgeOfKind, point_order, end_of}
use Rattle.part_bounds.specs.Stored.{stored, width}
use Rattle.part_bounds.specs.Listings.{mark_at}
use Rattle.part_bounds.proofs.StoredLaws.{in_row, kinds_row}
use Rattle.part_bounds.proofs.ListingLaws.{listed_long, listed_point}
use Rattle.part_bounds.proofs.Shared.{as_long}
use Rattle.bound_forms.specs.declared.partition_bound.Bound.{Bound}
use Rattle.part_bounds.proofs.stored.count_point.Goals as goal

pub cmp_end-requires-clause-of_kind : goal.cmp_end-requires-clause-of_kind
cmp_end-requires-clause-of_kind g c =
    let P = g.K.KeyKind.admits c.set.inside.kind in
    let row = in_row _ _ (c.is_range_level.ensures.yes c.if-is_range_level.true) (rw c.set.view_is at c.set.invariant.0) (rw c.set.view_is at c.set.invariant.1) in
    subst (λ p. All (EdgeOfKind P) p) (sym c.stored_point.ensures) (kinds_row P c.args.set.now row (rw c.set.view_is at c.set.invariant.0) c.args.i [] c.requires.is_point)

pub cmp_end-requires-clause-fit : goal.cmp_end-requires-clause-fit
cmp_end-requires-clause-fit g c = rw c.stored_point.ensures (c.requires.fits c.args.i [] c.requires.is_point).1

pub returns-then-is_range_level-clause-order : goal.returns-then-is_range_level-clause-order
returns-then-is_range_level-clause-order g c =
    let long = (c.requires.fits c.args.i [] c.requires.is_point).0 in
    c.counted.ensures.order ∙ c.cmp_end.ensures ∙ rw (c.stored_point.ensures, long) refl

pub index-requires : goal.index-requires
index-requires g c =
    let level = c.is_range_level.ensures.no c.if-is_range_level.false c.requires.level in
    let long = listed_long c.args.set.now _ level (rw c.set.view_is at c.set.invariant.2) in
    omega (arith, as_long _ _ c.deref-else-is_range_level-2.ensures, long, c.requires.is_point)

pub returns-else-is_range_level-clause-order : goal.returns-else-is_range_level-clause-order
returns-else-is_range_level-clause-order g c =
    let level = c.is_range_level.ensures.no c.if-is_range_level.false c.requires.level in
    let stands = rw c.set.view_is at c.set.invariant.2 in
    let long = listed_long c.args.set.now _ level stands in
    let point = listed_point c.args.set.now _ c.args.i c.index.result.now [] level stands (omega (arith, long, c.requires.is_point)) (rw c.deref-else-is_range_level-2.ensures at c.index.ensures) in
    let two : 2 ≡ width c.args.set.now = sym (ap length point) ∙ (c.requires.fits c.args.i [] c.requires.is_point).0 in
    let last : point_order (mark_at c.args.set.now c.index.result.now).point (end_of 2 c.args.n c.args.fill (g.Q.Key.values c.args.key.now)) ≡ point_order (get_or (stored c.args.set.now) c.args.i []) (end_of (width c.args.set.now) c.args.n c.args.fill (g.Q.Key.values c.args.key.now)) =
    rw (point, ← two) refl in
    c.counted-else-is_range_level.ensures.order ∙ c.cmp_listed_end.ensures
    ∙ ap (λ bs. point_order (mark_at bs c.index.result.now).point (end_of 2 c.args.n c.args.fill (g.Q.Key.values c.args.key.now))) (c.deref-else-is_range_level.ensures.value ∙ ap (λ (v : Vec Bound Global). v.items) c.deref.ensures ∙ c.set.view_is) ∙ last
