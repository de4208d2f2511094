use Rattle.std.proofs.Common.{sym, ap, ◌∙◌, arith, length}
use Rattle.part_bounds.proofs.DefaultLaws.{default_last, default_missing}
use Rattle.part_bounds.proofs.Shared.{as_long}
use Rattle.part_bounds.proofs.bound_set.default_child.Goals as goal

pub returns-then-is_default : goal.returns-then-is_default
returns-then-is_default g c =
    default_last c.args.set.now c.len-n.result c.index.result.now (rw c.set.view_is at c.set.invariant.1) (omega (arith, c.len-n.ensures, as_long _ _ c.deref-bounds.ensures, ap length c.set.view_is)) c.if-n-eq0.false
    (rw (c.deref-bounds.ensures, c.set.view_is) at c.index.ensures) (sym c.is_default.ensures ∙ c.if-is_default.true)

pub returns-else-is_default : goal.returns-else-is_default
returns-else-is_default g c =
    default_missing c.args.set.now c.len-n.result c.index.result.now (rw c.set.view_is at c.set.invariant.1) (omega (arith, c.len-n.ensures, as_long _ _ c.deref-bounds.ensures, ap length c.set.view_is)) c.if-n-eq0.false
    (rw (c.deref-bounds.ensures, c.set.view_is) at c.index.ensures) (sym c.is_default.ensures ∙ c.if-is_default.false)
