use Rattle.std.proofs.Common.{◌≡◌, ◌∙◌, sym, subst, false, arith}
use Rattle.bound_forms.specs.Accepts.{has_null}
use Rattle.bound_forms.specs.Points.{point_of}
use Rattle.part_bounds.specs.Stored.{stored, TellsEqual}
use Rattle.part_bounds.proofs.Strategies.{lists_have_points}
use Rattle.part_bounds.proofs.FindLaws.{fits_key, splits_key, equal_key}
use Rattle.part_bounds.proofs.ListingLaws.{listed_long}
use Rattle.part_bounds.proofs.ListFind.{list_found, list_none, list_null}
use Rattle.part_bounds.proofs.Shared.{as_long}
use Rattle.part_bounds.proofs.search.list_child.Goals as goal

pub returns-then-has_null-clause-child : goal.returns-then-has_null-clause-child
returns-then-has_null-clause-child g c = (rw c.set.view_is at c.set.invariant.3) ∙ list_null c.args.set.now (g.Q.Key.values c.args.key.now) c.requires.lists c.requires.one (sym c.has_null.ensures ∙ c.if-has_null.true)

pub search_points-found-requires-clause-level : goal.search_points-found-requires-clause-level
search_points-found-requires-clause-level g c = lists_have_points c.args.set.now c.requires.lists

pub search_points-found-requires-clause-fits : goal.search_points-found-requires-clause-fits
search_points-found-requires-clause-fits g c = rw c.len.ensures (fits_key c.args.set.now (g.Q.Key.values c.args.key.now) c.requires.fits (sym c.has_null.ensures ∙ c.if-has_null.false))

pub index-requires : goal.index-requires
index-requires g c =
    let some = (c.search_points-found.ensures.equal.told c.if-found.true).0 in
    let long = listed_long c.args.set.now _ c.requires.lists (rw c.set.view_is at c.set.invariant.2) in
    let within = c.search_points-found.ensures.points.within in
    omega (arith, as_long _ _ c.deref.ensures, some, long, within)

pub returns-then-found-clause-child : goal.returns-then-found-clause-child
returns-then-found-clause-child g c =
    let null : has_null (g.Q.Key.values c.args.key.now) ≡ false = sym c.has_null.ensures ∙ c.if-has_null.false in
    let stands = rw c.set.view_is at c.set.invariant.2 in
    let long = listed_long c.args.set.now _ c.requires.lists stands in
    let within = c.search_points-found.ensures.points.within in
    let tells = equal_key c.args.set.now (g.Q.Key.values c.args.key.now) c.search_points-found.result.below c.search_points-found.result.equal c.requires.fits null within (rw c.len.ensures at c.search_points-found.ensures.equal) in
    list_found c.args.set.now _ (g.Q.Key.values c.args.key.now) c.search_points-found.result.below c.index.result.now (rw c.set.view_is at c.set.invariant.1) c.requires.lists stands c.requires.one null (omega (arith, long, within))
    (subst (λ t. TellsEqual (stored c.args.set.now) (point_of (g.Q.Key.values c.args.key.now)) c.search_points-found.result.below t) c.if-found.true tells) (rw c.deref.ensures at c.index.ensures)

pub returns-clause-child : goal.returns-clause-child
returns-clause-child g c =
    let null : has_null (g.Q.Key.values c.args.key.now) ≡ false = sym c.has_null.ensures ∙ c.if-has_null.false in
    let within = c.search_points-found.ensures.points.within in
    let tells = equal_key c.args.set.now (g.Q.Key.values c.args.key.now) c.search_points-found.result.below c.search_points-found.result.equal c.requires.fits null within (rw c.len.ensures at c.search_points-found.ensures.equal) in
    list_none c.args.set.now (g.Q.Key.values c.args.key.now) c.search_points-found.result.below c.requires.lists c.requires.one null
    (splits_key c.args.set.now (g.Q.Key.values c.args.key.now) c.search_points-found.result.below c.requires.fits null (rw c.len.ensures at c.search_points-found.ensures.points))
    (subst (λ t. TellsEqual (stored c.args.set.now) (point_of (g.Q.Key.values c.args.key.now)) c.search_points-found.result.below t) c.if-found.false tells)
