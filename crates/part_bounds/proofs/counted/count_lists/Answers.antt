use Rattle.std.proofs.Common.{sym, ◌∙◌}
use Rattle.bound_forms.specs.Listed.{is_same}
use Rattle.bound_forms.proofs.Walk.{any_found, any_passed}
use Rattle.part_bounds.proofs.counted.count_lists.Goals as goal

pub returns-then-count_same : goal.returns-then-count_same
returns-then-count_same g c = sym (any_found (λ w. is_same w c.args.v.now) _ c.loop-i.i _ c.value.ensures (sym c.count_same.ensures.same ∙ c.if-count_same.true)) ∙ c.loop-i.invariant

pub loop-i-preserved : goal.loop-i-preserved
loop-i-preserved g c = sym (any_passed (λ w. is_same w c.args.v.now) _ c.loop-i.i _ c.value.ensures (sym c.count_same.ensures.same ∙ c.if-count_same.false)) ∙ c.loop-i.invariant
