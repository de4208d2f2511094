use Rattle.std.proofs.Common.{◌∙◌}
use Rattle.prune_steps.proofs.Words.{run_more, run_done}
use Rattle.prune_steps.proofs.kept_set.KeptSet.set_run.Goals as goal

pub loop-child-preserved : goal.loop-child-preserved
loop-child-preserved c = λ k low. c.add_if.ensures k low ∙ run_more c.args.from c.args.to c.loop-child.child k c.loop-child.auto.child c.loop-child-test.true (c.loop-child.invariant k low)

pub returns : goal.returns
returns c = λ k low. c.loop-child.invariant k low ∙ run_done c.args.from c.args.to c.loop-child.child k c.loop-child-test.false
