use Rattle.std.proofs.Common.{sym, ◌∙◌}
use Rattle.bound_forms.specs.Listed.{lists}
use Rattle.bound_forms.proofs.Walk.{any_found, any_passed}
use Rattle.part_bounds.proofs.counted.count_share.Goals as goal

pub returns-then-count_lists : goal.returns-then-count_lists
returns-then-count_lists g c = sym (any_found (λ v. lists c.args.others.now v) _ c.loop-i.i _ c.value.ensures (sym c.count_lists.ensures ∙ c.if-count_lists.true)) ∙ c.loop-i.invariant

pub loop-i-preserved : goal.loop-i-preserved
loop-i-preserved g c = sym (any_passed (λ v. lists c.args.others.now v) _ c.loop-i.i _ c.value.ensures (sym c.count_lists.ensures ∙ c.if-count_lists.false)) ∙ c.loop-i.invariant
