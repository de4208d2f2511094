use Rattle.std.proofs.Common.{◌<◌, ◌∙◌, sym, ap, arith, length}
use Rattle.part_bounds.proofs.Strategies.{ranges_by_first, lists_else, one_column}
use Rattle.part_bounds.proofs.Shared.{as_long}
use Rattle.part_bounds.proofs.level_kind.is_range_level.Goals as goal

pub returns-clause-yes : goal.returns-clause-yes
returns-clause-yes g c = λ h. ranges_by_first c.args.set.now c.index.result.now (rw c.set.view_is at c.set.invariant.1) (rw (c.deref-2.ensures, c.set.view_is) at c.index.ensures) (sym c.is_of_ranges.ensures ∙ h)

pub returns-clause-no : goal.returns-clause-no
returns-clause-no g c = λ h points.
    let some : 0 < length c.args.set.now = omega (arith, c.if-len-eq0.false, c.len.ensures, as_long _ _ c.deref.ensures, ap length c.set.view_is) in
    lists_else c.args.set.now c.index.result.now (rw c.set.view_is at c.set.invariant.1) (rw (c.deref-2.ensures, c.set.view_is) at c.index.ensures) some (sym c.is_of_ranges.ensures ∙ h) points

pub returns-clause-one : goal.returns-clause-one
returns-clause-one g c = λ h points key fits.
    let some : 0 < length c.args.set.now = omega (arith, c.if-len-eq0.false, c.len.ensures, as_long _ _ c.deref.ensures, ap length c.set.view_is) in
    one_column c.args.set.now c.index.result.now key (rw (c.deref-2.ensures, c.set.view_is) at c.index.ensures) some (sym c.is_of_ranges.ensures ∙ h) points fits
