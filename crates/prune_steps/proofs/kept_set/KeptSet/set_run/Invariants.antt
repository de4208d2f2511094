use Rattle.std.proofs.Common.{◌&&◌, nat_lt}
use Rattle.prune_steps.specs.Bits.{in_run, AreBits}
use Rattle.prune_steps.proofs.kept_set.KeptSet.set_run.Given as goal

abbrev pub invariant-loop-child : goal.invariant-loop-child
invariant-loop-child l = AreBits 1024 l.self (λ k. in_run l.from l.child k && nat_lt k l.to)
