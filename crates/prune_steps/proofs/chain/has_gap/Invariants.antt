use Rattle.prune_steps.specs.Runs.{NoGapIn}
use Rattle.prune_steps.proofs.chain.has_gap.Given as goal

abbrev pub invariant-loop-i : goal.invariant-loop-i
invariant-loop-i g l = NoGapIn l.set l.from l.i
