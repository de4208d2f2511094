use Rattle.std.proofs.Common.{sym, ◌∙◌}
use Rattle.bound_forms.specs.Listed.{lists}
use Rattle.bound_forms.proofs.WithinLaws.{all_failed, all_passed}
use Rattle.bound_forms.proofs.inside.lists_each.Goals as goal

pub returns-then-not-lists : goal.returns-then-not-lists
returns-then-not-lists c = sym (all_failed (λ v. lists c.args.others.now v) _ c.loop-i.i _ c.value.ensures (sym c.lists.ensures ∙ c.if-not-lists.true)) ∙ c.loop-i.invariant

pub loop-i-preserved : goal.loop-i-preserved
loop-i-preserved c = sym (all_passed (λ v. lists c.args.others.now v) _ c.loop-i.i _ c.value.ensures (sym c.lists.ensures ∙ c.if-not-lists.false)) ∙ c.loop-i.invariant
