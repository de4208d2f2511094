use Rattle.std.proofs.Common.{sym, ◌∙◌}
use Rattle.bound_forms.specs.Points.{is_null}
use Rattle.bound_forms.proofs.Walk.{any_found, any_passed}
use Rattle.part_bounds.proofs.listing.has_null.Goals as goal

pub returns-then-is_null : goal.returns-then-is_null
returns-then-is_null c = sym (any_found is_null _ c.loop-i.i _ c.value.ensures (sym c.is_null.ensures ∙ c.if-is_null.true)) ∙ c.loop-i.invariant

pub loop-i-preserved : goal.loop-i-preserved
loop-i-preserved c = sym (any_passed is_null _ c.loop-i.i _ c.value.ensures (sym c.is_null.ensures ∙ c.if-is_null.false)) ∙ c.loop-i.invariant
