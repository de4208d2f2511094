use Rattle.std.proofs.Common.{arith}
use Rattle.cond_logic.specs.Tuples.{lent}
use Rattle.plan_tree.specs.Plans.{both, planned_pair}
use Rattle.plan_text.specs.Plans.{joins}
use Rattle.plan_text.proofs.Told.{all_pairs_told, one_scan}
use Rattle.plan_text.proofs.plan.push_each_pair.Goals as goal

pub loop-pair-preserved : goal.loop-pair-preserved
loop-pair-preserved c =
    one_scan (λ p. joins c.args.items.now (lent c.args.counts) (both (planned_pair p)) c.args.depth) c.args.out.now.items c.loop-pair.out.items c.push_pair.new.out.items c.args.pairs.now c.loop-pair.pair-index c.pair-item.result c.loop-pair-test.true c.pair-item.is
    c.loop-pair.invariant c.in_ok-push_pair.ensures

pub returns : goal.returns
returns c =
    all_pairs_told c.args.items.now (lent c.args.counts) planned_pair c.args.pairs.now c.args.depth c.loop-pair.pair-index c.args.out.now.items c.loop-pair.out.items (omega (arith, c.loop-pair-test.false)) c.loop-pair.invariant
