use Rattle.std.proofs.Common.{◌∙◌, ◌++◌, ap, map, sym}
use Rattle.cond_logic.specs.Asked.{output_tree, select_meant}
use Rattle.cond_logic.specs.Tuples.{lent}
use Rattle.plan_tree.specs.Plans.{planned}
use Rattle.plan_text.proofs.Told.{on_ok, in_order_none, in_order_some}
use Rattle.plan_text.proofs.plan.push_in_order.Goals as goal

pub returns-then-is_empty : goal.returns-then-is_empty
returns-then-is_empty c =
    on_ok c.push_sorted.result
    (λ pushed. pushed ∙ ap (λ ls. c.args.out.now.items ++ ls) (in_order_none c.args.items.now (lent c.args.counts) (select_meant c.args.ask.now) (planned c.args.plan.now) (λ p. p.now) _ c.args.depth _ _ _ c.in_ok-parts.ensures c.in_ok-parts.parts.ok.0 (sym c.is_empty.ensures ∙ c.if-is_empty.true)
    (ap (map output_tree) c.as_slice-outputs.ensures) c.as_slice-order.ensures))
    c.push_sorted.ensures

pub returns : goal.returns
returns c =
    on_ok c.push_ordered.result
    (λ pushed. pushed ∙ ap (λ ls. c.args.out.now.items ++ ls) (in_order_some c.args.items.now (lent c.args.counts) (select_meant c.args.ask.now) (planned c.args.plan.now) (λ p. p.now) _ _ c.args.depth _ _ _ _ c.in_ok-parts.ensures c.in_ok-parts.parts.ok.0 (sym c.is_empty.ensures ∙ c.if-is_empty.false)
    (ap (map output_tree) c.as_slice-outputs.ensures) c.as_slice-order.ensures (c.deref.ensures.value ∙ c.in_ok-keys.ensures) c.deref-2.ensures.value))
    c.push_ordered.ensures
