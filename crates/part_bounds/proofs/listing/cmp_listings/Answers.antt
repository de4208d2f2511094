use Rattle.std.proofs.Common.{sym, ◌∙◌, refl}
use Rattle.part_bounds.specs.Listings.{value_at}
use Rattle.part_bounds.proofs.ListingLaws.{one_value}
use Rattle.part_bounds.proofs.listing.cmp_listings.Goals as goal

pub returns : goal.returns
returns c = c.cmp_any.ensures ∙ rw (c.listed_at.ensures, c.listed_at-2.ensures) refl ∙ sym (one_value (value_at c.args.bounds.now c.args.a) (value_at c.args.bounds.now c.args.b))
