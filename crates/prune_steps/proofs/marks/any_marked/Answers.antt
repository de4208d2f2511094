use Rattle.std.proofs.Common.{sym, ◌∙◌}
use Rattle.bound_forms.proofs.Walk.{any_found, any_passed}
use Rattle.prune_steps.specs.Lists.{is_marked}
use Rattle.prune_steps.proofs.marks.any_marked.Goals as goal

pub returns-then-is_marked : goal.returns-then-is_marked
returns-then-is_marked g c = sym (any_found (is_marked c.args.mark) _ c.loop-k.k _ c.bound.ensures (sym c.is_marked.ensures ∙ c.if-is_marked.true)) ∙ c.loop-k.invariant

pub loop-k-preserved : goal.loop-k-preserved
loop-k-preserved g c = sym (any_passed (is_marked c.args.mark) _ c.loop-k.k _ c.bound.ensures (sym c.is_marked.ensures ∙ c.if-is_marked.false)) ∙ c.loop-k.invariant
