use Rattle.plan_tree.proofs.Asked.{StepsSoFar}
use Rattle.plan_tree.proofs.pruning.all_steps_of.Given as goal

abbrev pub invariant-loop-cond : goal.invariant-loop-cond
invariant-loop-cond l = StepsSoFar l.item l.conds l.cond-index l.all.items
