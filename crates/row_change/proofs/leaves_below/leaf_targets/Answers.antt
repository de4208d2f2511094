use Rattle.row_router.specs.Seen.{seen}
use Rattle.row_change.proofs.Targets.{one_more_read}
use Rattle.row_change.proofs.leaves_below.leaf_targets.Goals as goal

pub loop-leaf-preserved : goal.loop-leaf-preserved
loop-leaf-preserved c = record {
  have = one_more_read (seen c.args.tree.now) c.loop-leaf.targets.items c.add_target.new.targets.items c.args.leaves.now c.loop-leaf.leaf-index (record { number = 0 }) c.in_ok-add_target.ensures.others c.loop-leaf-test.true c.in_ok-add_target.ensures.leaf c.loop-leaf.invariant.have;
  at = c.in_ok-add_target.ensures.places;
  are = λ h txs catalogue. c.in_ok-add_target.ensures.targets h txs catalogue (c.loop-leaf.invariant.are h txs catalogue);
}
