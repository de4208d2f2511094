use Rattle.std.proofs.Common.{sym, ◌∙◌}
use Rattle.bound_forms.specs.Listed.{is_same}
use Rattle.bound_forms.proofs.Walk.{any_found, any_passed}
use Rattle.bound_forms.proofs.listed.lists.Goals as goal

pub returns-then-is_same : goal.returns-then-is_same
returns-then-is_same g c = sym (any_found (λ w. is_same w c.args.v.now) _ c.loop-i.i _ c.value.ensures (sym c.is_same.ensures ∙ c.if-is_same.true)) ∙ c.loop-i.invariant

pub loop-i-preserved : goal.loop-i-preserved
loop-i-preserved g c = sym (any_passed (λ w. is_same w c.args.v.now) _ c.loop-i.i _ c.value.ensures (sym c.is_same.ensures ∙ c.if-is_same.false)) ∙ c.loop-i.invariant
