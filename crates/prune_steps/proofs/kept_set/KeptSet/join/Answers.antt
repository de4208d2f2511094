use Rattle.std.proofs.Common.{arith}
use Rattle.prune_steps.proofs.Words.{joined}
use Rattle.prune_steps.proofs.kept_set.KeptSet.join.Goals as goal

pub returns : goal.returns
returns c = rw (← c.self.view_is, ← c.other.view_is) (joined c.self.inside.words c.other.inside.words c.loop-i.self-inside.words (λ j lt. c.loop-i.invariant.done j (omega (arith, lt, c.loop-i.auto.i-end, c.loop-i-test.false))))
