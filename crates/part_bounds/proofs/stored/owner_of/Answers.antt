use Rattle.std.proofs.Common.{◌≡◌, ◌+◌, ◌/◌, sym, arith, ◌∙◌}
use Rattle.part_bounds.proofs.StoredLaws.{in_row, owned_row}
use Rattle.part_bounds.proofs.ListingLaws.{listed_long, listed_owner}
use Rattle.part_bounds.proofs.Shared.{as_long}
use Rattle.part_bounds.proofs.stored.owner_of.Goals as goal

pub returns-then-is_range_level : goal.returns-then-is_range_level
returns-then-is_range_level g c =
    let none : c.args.i / 2 ≡ 0 + c.args.i / 2 = omega arith in
    none ∙ sym (owned_row c.args.set.now (in_row _ _ (c.is_range_level.ensures.yes c.if-is_range_level.true) (rw c.set.view_is at c.set.invariant.0) (rw c.set.view_is at c.set.invariant.1)) c.args.i c.requires.there)

pub index-requires : goal.index-requires
index-requires g c =
    let level = c.is_range_level.ensures.no c.if-is_range_level.false c.requires.level in
    let long = listed_long c.args.set.now _ level (rw c.set.view_is at c.set.invariant.2) in
    omega (arith, as_long _ _ c.deref.ensures, long, c.requires.there)

pub returns-else-is_range_level : goal.returns-else-is_range_level
returns-else-is_range_level g c =
    let level = c.is_range_level.ensures.no c.if-is_range_level.false c.requires.level in
    let stands = rw c.set.view_is at c.set.invariant.2 in
    let long = listed_long c.args.set.now _ level stands in
    listed_owner c.args.set.now _ c.args.i c.index.result.now level stands (omega (arith, long, c.requires.there)) (rw c.deref.ensures at c.index.ensures)
