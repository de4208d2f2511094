use Rattle.std.proofs.Common.{◌∙◌, map, sym}
use Rattle.cond_logic.specs.Asked.{output_tree}
use Rattle.cond_logic.specs.Tuples.{lent}
use Rattle.plan_tree.specs.Plans.{planned}
use Rattle.plan_text.specs.Plans.{rows}
use Rattle.plan_text.proofs.Told.{on_ok, sorted_told}
use Rattle.plan_text.proofs.plan.push_sorted.Goals as goal

pub returns : goal.returns
returns c =
    on_ok c.push_rows-2.result
    (λ pushed. sorted_told c.args.items.now (lent c.args.counts) (map output_tree c.args.outputs.now) c.args.order.now (rows c.args.items.now (lent c.args.counts) (planned c.args.plan.now)) c.args.depth _ _ _ _ c.deref.result.now (sym c.is_empty.ensures ∙ c.if-is_empty.false) c.of_given.ensures
    (c.deref.ensures.value ∙ c.in_ok-keys.ensures) c.in_ok-push_node.ensures pushed) c.push_rows-2.ensures
