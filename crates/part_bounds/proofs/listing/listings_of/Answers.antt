use Rattle.std.proofs.Common.{◌≡◌, true, ap, ◌∙◌}
use Rattle.part_bounds.specs.Sorted.{sorted}
use Rattle.part_bounds.specs.Listings.{listing_less}
use Rattle.part_bounds.proofs.ListingLaws.{child_more, children_done, none_listed, stands}
use Rattle.part_bounds.proofs.StoredLaws.{each_of}
use Rattle.part_bounds.specs.Stored.{of_ranges}
use Rattle.part_bounds.proofs.listing.listings_of.Goals as goal

pub loop-child-preserved : goal.loop-child-preserved
loop-child-preserved c = child_more _ _ c.loop-child.child c.args.bounds.now _ _ c.loop-child-test.true c.index-bounds-child.is c.in_ok-add_child.ensures c.loop-child.invariant

pub returns-clause-stands : goal.returns-clause-stands
returns-clause-stands c =
    let all = children_done _ _ c.loop-child.child c.args.bounds.now c.loop-child-test.false c.loop-child.invariant in
    stands c.args.bounds.now _ (c.in_ok-sort_listings.ensures ∙ ap (sorted (listing_less c.args.bounds.now)) all)

pub returns-clause-none : goal.returns-clause-none
returns-clause-none c = λ ranges.
    let all = children_done _ _ c.loop-child.child c.args.bounds.now c.loop-child-test.false c.loop-child.invariant in
    let none = none_listed 0 c.args.bounds.now (each_of (λ b. of_ranges b ≡ true) c.args.bounds.now ranges) in
    c.in_ok-sort_listings.ensures ∙ ap (sorted (listing_less c.args.bounds.now)) (all ∙ none)
