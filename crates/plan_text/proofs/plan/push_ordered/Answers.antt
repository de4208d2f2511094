use Rattle.std.proofs.Common.{◌≡◌, ◌∙◌, List, ap, get_or, length, map, subst, sym}
use Rattle.cond_logic.specs.Tuples.{lent}
use Rattle.plan_tree.specs.Plans.{planned_item}
use Rattle.plan_tree.specs.declared.item.PlanItem.{PlanItem}
use Rattle.plan_text.proofs.Told.{on_ok, ordered_told, no_item}
use Rattle.plan_text.proofs.plan.push_ordered.Goals as goal

pub returns-then-is_empty : goal.returns-then-is_empty
returns-then-is_empty c = no_item c.args.items.now (lent c.args.counts) c.args.keys.now planned_item c.args.plan.now.items (map (λ p. p.now) c.args.parts.now) c.args.depth _ c.args.out.now.items (ap length c.as_slice-planned.ensures) (sym c.is_empty.ensures ∙ c.if-is_empty.true)

pub returns : goal.returns
returns c =
    let first = subst (λ (is : List PlanItem). c.index-planned-0.result ≡ get_or is 0 c.index-planned-0.result) c.as_slice-planned.ensures c.index-planned-0.is in
    on_ok c.push_parts.result
    (λ pushed. ordered_told c.args.items.now (lent c.args.counts) c.args.keys.now planned_item c.args.plan.now.items c.index-planned-0.result (λ p. p.now) c.args.parts.now c.args.depth _ _ _ _ _ (ap length c.as_slice-planned.ensures) (sym c.is_empty.ensures ∙ c.if-is_empty.false) first c.of_given.ensures c.in_ok-push_node.ensures pushed)
    c.push_parts.ensures
