use Rattle.std.proofs.Common.{◌∙◌, ap, arith, length}
use Rattle.part_bounds.proofs.StoredLaws.{in_row, fit_next, touches_last, touches_is, not_default, kind_upper}
use Rattle.part_bounds.proofs.Shared.{as_long}
use Rattle.part_bounds.proofs.stored.touches.Goals as goal

pub returns-then-child-len : goal.returns-then-child-len
returns-then-child-len g c =
    touches_last c.args.set.now (in_row _ _ c.requires.ranges (rw c.set.view_is at c.set.invariant.0) (rw c.set.view_is at c.set.invariant.1)) c.args.child c.requires.child (omega (arith, c.if-child-len.true, c.len.ensures, as_long _ _ c.deref.ensures, ap length c.set.view_is)) c.requires.is_range

pub begins_up_to-requires-clause-fit : goal.begins_up_to-requires-clause-fit
begins_up_to-requires-clause-fit g c =
    fit_next c.args.set.now c.requires.fit c.args.child c.index.result.now c.index-in-Range.result.now c.in-Range.lower c.in-Range.upper (omega (arith, c.if-child-len.false, c.len.ensures, as_long _ _ c.deref.ensures, ap length c.set.view_is))
    (rw (c.deref-2.ensures, c.set.view_is) at c.index.ensures) c.in-Range.is (rw (c.deref-in-Range.ensures, c.set.view_is) at c.index-in-Range.ensures)

pub begins_up_to-requires-clause-of_kind : goal.begins_up_to-requires-clause-of_kind
begins_up_to-requires-clause-of_kind g c =
    kind_upper (g.K.KeyKind.admits c.set.inside.kind) c.args.set.now c.args.child c.index.result.now c.in-Range.lower c.in-Range.upper c.requires.child (rw (c.deref-2.ensures, c.set.view_is) at c.index.ensures) c.in-Range.is (rw c.set.view_is at c.set.invariant.0)

pub returns : goal.returns
returns g c =
    c.begins_up_to.ensures ∙
    touches_is c.args.set.now (in_row _ _ c.requires.ranges (rw c.set.view_is at c.set.invariant.0) (rw c.set.view_is at c.set.invariant.1)) c.args.child c.index.result.now c.index-in-Range.result.now c.in-Range.lower c.in-Range.upper
    (omega (arith, c.if-child-len.false, c.len.ensures, as_long _ _ c.deref.ensures, ap length c.set.view_is)) (rw (c.deref-2.ensures, c.set.view_is) at c.index.ensures) c.in-Range.is (rw (c.deref-in-Range.ensures, c.set.view_is) at c.index-in-Range.ensures)

pub unreachable-requires : goal.unreachable-requires
unreachable-requires g c =
    not_default c.args.set.now (in_row _ _ c.requires.ranges (rw c.set.view_is at c.set.invariant.0) (rw c.set.view_is at c.set.invariant.1)) c.args.child c.index.result.now c.requires.child c.requires.is_range (rw (c.deref-2.ensures, c.set.view_is) at c.index.ensures) c.in_default.not-Range
