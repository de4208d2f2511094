use Rattle.std.proofs.Common.{arith}
use Rattle.row_change.proofs.Places.{no_places, places_next}
use Rattle.row_change.proofs.storing.places_of.Goals as goal

pub loop-place-init : goal.loop-place-init
loop-place-init c = no_places c.new-places.result c.new-places.ensures

pub loop-place-preserved : goal.loop-place-preserved
loop-place-preserved c = places_next c.loop-place.places c.note.new.self c.args.targets.now c.index-targets-place.result c.loop-place.place c.loop-place-test.true c.index-targets-place.is c.loop-place.invariant c.in_ok-note.ensures
