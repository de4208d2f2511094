use Rattle.std.proofs.Common.{List, refl, subst, sym, arith}
use Rattle.prune_steps.specs.declared.pruning.Pruning.{Pruning}
use Rattle.plan_tree.proofs.Asked.{StepsSoFar, one_more, all_made}
use Rattle.plan_tree.proofs.pruning.all_steps_of.Goals as goal

pub loop-cond-init : goal.loop-cond-init
loop-cond-init c = subst (λ (ps : List Pruning). StepsSoFar c.args.item c.args.conds.now 0 ps) (sym c.new-all.ensures.items) (λ level bounds args before rows b. refl)

pub loop-cond-preserved : goal.loop-cond-preserved
loop-cond-preserved c =
    one_more c.args.item c.args.conds.now c.loop-cond.cond-index c.loop-cond.all.items c.push.new.self.items c.in_ok-new.field-0 c.cond-item.result c.loop-cond.invariant c.loop-cond-test.true c.cond-item.is
    c.in_ok-push.ensures.items c.in_ok-new.ensures.item c.in_ok-new.ensures.condition

pub returns : goal.returns
returns c = all_made c.args.item c.args.conds.now c.loop-cond.cond-index c.loop-cond.all.items c.loop-cond.invariant (omega arith)
