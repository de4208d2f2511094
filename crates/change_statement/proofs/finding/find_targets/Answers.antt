use Rattle.std.proofs.Common.{refl}
use Rattle.cond_logic.specs.Asked.{maybe_cond}
use Rattle.change_statement.specs.Targets.{targets_in}
use Rattle.change_statement.proofs.Taken.{more_targets}
use Rattle.change_statement.proofs.finding.find_targets.Goals as goal

pub loop-leaf-preserved : goal.loop-leaf-preserved
loop-leaf-preserved c = record {
  are = λ h s txs st may snap. more_targets (targets_in h s (maybe_cond c.args.condition.now)) c.args.leaves.now c.loop-leaf.leaf-index _ _ c.loop-leaf.found.items c.push_targets.new.found.items _ c.loop-leaf-test.true refl (c.loop-leaf.invariant.are h s txs st may snap) (c.in_ok-push_targets.ensures.are h s txs st may snap);
  there = c.in_ok-push_targets.ensures.there c.loop-leaf.invariant.there;
}
