use Rattle.std.proofs.Common.{◌∙◌, ap, arith, length}
use Rattle.part_bounds.proofs.StoredLaws.{in_row, owner, owner_low, owner_high, owner_is, row_at, row_lt}
use Rattle.part_bounds.proofs.Shared.{as_long}
use Rattle.part_bounds.proofs.stored.stored_point.Goals as goal

pub index-requires : goal.index-requires
index-requires g c =
    let row = in_row _ _ c.requires.ranges (rw c.set.view_is at c.set.invariant.0) (rw c.set.view_is at c.set.invariant.1) in
    let r = owner c.args.set.now row c.args.i (row_lt c.args.set.now row c.args.i c.requires.there) in
    let h = r.child in omega (arith, h, as_long _ _ c.deref.ensures, ap length c.set.view_is)

pub unreachable-requires : goal.unreachable-requires
unreachable-requires g c =
    let row = in_row _ _ c.requires.ranges (rw c.set.view_is at c.set.invariant.0) (rw c.set.view_is at c.set.invariant.1) in
    owner_is c.args.set.now row c.args.i c.index.result.now (row_lt c.args.set.now row c.args.i c.requires.there) (rw (c.deref.ensures, c.set.view_is) at c.index.ensures) c.in_default.not-Range

pub returns-then-i-eq0 : goal.returns-then-i-eq0
returns-then-i-eq0 g c =
    let row = in_row _ _ c.requires.ranges (rw c.set.view_is at c.set.invariant.0) (rw c.set.view_is at c.set.invariant.1) in
    owner_low c.args.set.now row c.args.i c.index.result.now c.in-Range.lower c.in-Range.upper (row_lt c.args.set.now row c.args.i c.requires.there) (rw (c.deref.ensures, c.set.view_is) at c.index.ensures) c.in-Range.is c.if-i-eq0.true
    ∙ row_at c.args.set.now row c.args.i

pub returns-else-i-eq0 : goal.returns-else-i-eq0
returns-else-i-eq0 g c =
    let row = in_row _ _ c.requires.ranges (rw c.set.view_is at c.set.invariant.0) (rw c.set.view_is at c.set.invariant.1) in
    owner_high c.args.set.now row c.args.i c.index.result.now c.in-Range.lower c.in-Range.upper (row_lt c.args.set.now row c.args.i c.requires.there) (rw (c.deref.ensures, c.set.view_is) at c.index.ensures) c.in-Range.is c.if-i-eq0.false
    ∙ row_at c.args.set.now row c.args.i
