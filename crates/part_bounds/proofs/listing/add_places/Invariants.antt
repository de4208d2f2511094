use Rattle.std.proofs.Common.{◌≡◌, ◌++◌, drop}
use Rattle.part_bounds.specs.Listings.{places_from}
use Rattle.part_bounds.proofs.listing.add_places.Given as goal

-- those so far with those still to come are all
abbrev pub invariant-loop-place : goal.invariant-loop-place
invariant-loop-place l = l.listings.items ++ places_from l.child l.place (drop l.place l.values) ≡ l.initial.listings.items ++ places_from l.child 0 l.values
