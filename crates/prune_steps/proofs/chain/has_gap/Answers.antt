use Rattle.std.proofs.Common.{sym, subst, ◌∙◌, ◌*◌, ◌≤◌, length, arith}
use Rattle.prune_steps.proofs.Runs.{run_child, one_more}
use Rattle.prune_steps.proofs.chain.has_gap.Goals as goal

pub touches-requires-clause-child : goal.touches-requires-clause-child
touches-requires-clause-child g c = (run_child c.args.set.now c.args.to c.loop-i.i c.ranges_stand_in_row.ensures.row (subst (λ ps. 2 * c.args.to ≤ length ps) c.ranges_stand_in_row.ensures.points c.requires.run) c.loop-i-test.true).0

pub touches-requires-clause-is_range : goal.touches-requires-clause-is_range
touches-requires-clause-is_range g c = (run_child c.args.set.now c.args.to c.loop-i.i c.ranges_stand_in_row.ensures.row (subst (λ ps. 2 * c.args.to ≤ length ps) c.ranges_stand_in_row.ensures.points c.requires.run) c.loop-i-test.true).1

pub returns-then-not-touches-clause-some : goal.returns-then-not-touches-clause-some
returns-then-not-touches-clause-some g c = λ h. (c.loop-i.i, c.loop-i.auto.i, c.loop-i-test.true, sym c.touches.ensures ∙ c.if-not-touches.true)

pub loop-i-preserved : goal.loop-i-preserved
loop-i-preserved g c = one_more c.args.set.now c.args.from c.loop-i.i c.loop-i.invariant (sym c.touches.ensures ∙ c.if-not-touches.false)

pub returns-clause-none : goal.returns-clause-none
returns-clause-none g c = λ h i from lt. c.loop-i.invariant i from (omega (arith, lt, c.loop-i-test.false))
