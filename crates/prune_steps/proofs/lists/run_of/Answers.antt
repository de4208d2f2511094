use Rattle.std.proofs.Common.{ap, arith}
use Rattle.prune_steps.specs.Lists.{looked_for}
use Rattle.prune_steps.proofs.lists.run_of.Goals as goal

pub returns-in-Eq-clause-run : goal.returns-in-Eq-clause-run
returns-in-Eq-clause-run g c = c.equal_run.ensures.run c.args.op (ap looked_for c.in-Eq.is)

pub returns-in-Ne-clause-run : goal.returns-in-Ne-clause-run
returns-in-Ne-clause-run g c = c.equal_run-in-Ne.ensures.run c.args.op (ap looked_for c.in-Ne.is)

pub returns-in-Lt-clause-run : goal.returns-in-Lt-clause-run
returns-in-Lt-clause-run g c = c.below.ensures.run c.args.op (ap looked_for c.in-Lt.is)

pub returns-in-Ge-clause-run : goal.returns-in-Ge-clause-run
returns-in-Ge-clause-run g c = c.below-in-Ge.ensures.run c.args.op (ap looked_for c.in-Ge.is)

pub returns-in-Le-clause-run : goal.returns-in-Le-clause-run
returns-in-Le-clause-run g c = c.up_to.ensures.run c.args.op (ap looked_for c.in-Le.is)

pub returns-in-Gt-clause-run : goal.returns-in-Gt-clause-run
returns-in-Gt-clause-run g c = c.up_to-in-Gt.ensures.run c.args.op (ap looked_for c.in-Gt.is)

pub returns-in-Eq-clause-counted : goal.returns-in-Eq-clause-counted
returns-in-Eq-clause-counted g c = λ d few. let two = c.equal_run.ensures.counted d few in omega (arith, two)

pub returns-in-Ne-clause-counted : goal.returns-in-Ne-clause-counted
returns-in-Ne-clause-counted g c = λ d few. let two = c.equal_run-in-Ne.ensures.counted d few in omega (arith, two)
