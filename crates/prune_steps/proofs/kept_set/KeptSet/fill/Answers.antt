use Rattle.std.proofs.Common.{arith}
use Rattle.std.proofs.lemmas.Grind.{common_steps}
use Rattle.prune_steps.proofs.Words.{filled}
use Rattle.prune_steps.proofs.kept_set.KeptSet.fill.Goals.{then-all, else-all}
use Rattle.prune_steps.proofs.kept_set.KeptSet.fill.Goals as goal

pub returns : goal.returns
returns c = filled c.loop-i.self-inside.words c.if-all.word c.args.all (λ j lt. c.loop-i.invariant j (omega (arith, lt, c.loop-i.auto.i-end, c.loop-i-test.false))) (grind (arith, common_steps))
