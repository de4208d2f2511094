use Rattle.std.proofs.Common.{◌≡◌, ◌++◌, drop}
use Rattle.part_bounds.specs.Listings.{listings_from}
use Rattle.part_bounds.proofs.listing.listings_of.Given as goal

-- those so far with those still to come are all
abbrev pub invariant-loop-child : goal.invariant-loop-child
invariant-loop-child l = l.listings.items ++ listings_from l.child (drop l.child l.bounds) ≡ listings_from 0 l.bounds
