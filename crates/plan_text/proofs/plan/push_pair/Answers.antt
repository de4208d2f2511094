use Rattle.cond_logic.specs.Tuples.{lent}
use Rattle.plan_tree.specs.Plans.{planned_pair}
use Rattle.plan_text.proofs.Told.{on_ok, pair_told}
use Rattle.plan_text.proofs.plan.push_pair.Goals as goal

pub returns : goal.returns
returns c =
    on_ok c.push_item-2.result
    (λ pushed. pair_told c.args.items.now (lent c.args.counts) (planned_pair c.args.pair.now) c.args.depth _ _ _ _ c.in_ok-push_join.ensures c.in_ok-push_item.ensures pushed)
    c.push_item-2.ensures
