use Rattle.std.proofs.Common.{arith}
use Rattle.part_bounds.proofs.ListingLaws.{places_more, places_done}
use Rattle.part_bounds.proofs.listing.add_places.Goals as goal

pub loop-place-preserved : goal.loop-place-preserved
loop-place-preserved c = places_more _ _ c.args.child c.loop-place.place c.args.values.now _ _ c.value.ensures c.in_ok-add_place.ensures c.loop-place.invariant

pub returns : goal.returns
returns c = places_done _ _ c.args.child c.loop-place.place c.args.values.now (omega (arith, c.loop-place-test.false, c.len-place-end.ensures)) c.loop-place.invariant
