use Rattle.std.proofs.Common.{rules}
use Rattle.std.proofs.lemmas.Fn.{always_returns_same}
use Rattle.part_bounds.specs.Listings.{listing_less}
use Rattle.part_bounds.proofs.Stable.{stably_sorted}
use Rattle.part_bounds.proofs.ListingLaws.{listing_weak}
use Rattle.part_bounds.proofs.listing.sort_listings.Goals as goal

pub returns : goal.returns
returns c =
    let lt = listing_less c.args.bounds.now in
    let o = listing_weak c.args.bounds.now in
    stably_sorted lt o _ _
    (c.in_ok-sort_by.ensures.sorted lt o (always_returns_same _ _ _ (λ a r f k. search rules)))
    (c.in_ok-sort_by.ensures.stable lt o (always_returns_same _ _ _ (λ a r f k. search rules)))
