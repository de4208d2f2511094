use Rattle.cond_logic.specs.Tuples.{lent}
use Rattle.plan_text.specs.Plans.{scan}
use Rattle.plan_text.proofs.Told.{one_scan}
use Rattle.plan_text.proofs.scans.push_scans.Goals as goal

pub loop-leaf-preserved : goal.loop-leaf-preserved
loop-leaf-preserved c =
    one_scan (λ leaf. scan c.args.items.now (lent c.args.counts) c.args.number c.args.filters.now leaf c.args.depth) c.args.out.now.items c.loop-leaf.out.items c.push_scan.new.out.items c.args.leaves.now c.loop-leaf.leaf-index c.leaf-item.result c.loop-leaf-test.true c.leaf-item.is
    c.loop-leaf.invariant c.in_ok-push_scan.ensures
