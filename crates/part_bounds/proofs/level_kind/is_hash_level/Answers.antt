use Rattle.std.proofs.Common.{◌∙◌, sym, ap, arith, length}
use Rattle.part_bounds.specs.Stored.{of_hashes}
use Rattle.part_bounds.proofs.Strategies.{hashes_by_first, points_by_first}
use Rattle.part_bounds.proofs.Shared.{as_long}
use Rattle.part_bounds.proofs.level_kind.is_hash_level.Goals as goal

pub returns-clause-yes : goal.returns-clause-yes
returns-clause-yes g c = λ h. hashes_by_first c.args.set.now c.index.result.now (rw c.set.view_is at c.set.invariant.1) (rw (c.deref-2.ensures, c.set.view_is) at c.index.ensures) (sym c.is_of_hashes.ensures ∙ h)

pub returns-clause-no : goal.returns-clause-no
returns-clause-no g c = λ h. points_by_first c.args.set.now c.index.result.now (rw c.set.view_is at c.set.invariant.1) (rw (c.deref-2.ensures, c.set.view_is) at c.index.ensures) (sym c.is_of_hashes.ensures ∙ h)

pub returns-clause-all : goal.returns-clause-all
returns-clause-all g c = λ r. c.is_of_hashes.ensures ∙ ap of_hashes (rw (c.deref-2.ensures, c.set.view_is) at c.index.ensures) ∙ r 0 c.index.result.now (omega (arith, c.if-len-eq0.false, c.len.ensures, as_long _ _ c.deref.ensures, ap length c.set.view_is))
