use Rattle.cond_logic.specs.Tuples.{lent}
use Rattle.plan_tree.specs.Plans.{planned_item}
use Rattle.plan_text.specs.Plans.{sorted_part}
use Rattle.plan_text.proofs.Told.{one_scan}
use Rattle.plan_text.proofs.plan.push_parts.Goals as goal

pub loop-part-preserved : goal.loop-part-preserved
loop-part-preserved c =
    one_scan (λ part. sorted_part c.args.items.now (lent c.args.counts) c.args.keys.now (planned_item c.args.item.now) part.now c.args.depth) c.args.out.now.items c.loop-part.out.items c.push_part.new.out.items c.args.parts.now c.loop-part.part-index c.part-item.result c.loop-part-test.true c.part-item.is
    c.loop-part.invariant c.in_ok-push_part.ensures
