use Rattle.std.proofs.Common.{◌≡◌, ◌∙◌, arith, ap}
use Rattle.cond_logic.specs.Trees.{cond_tree, inverted}
use Rattle.prune_steps.proofs.CondTrees.{not_is}
use Rattle.plan_tree.proofs.Weights.{part_less, not_less}
use Rattle.plan_tree.proofs.parameters.+opening.Goals as goal

pub some_has_parameter-has_parameter-requires : goal.some_has_parameter-has_parameter-requires
some_has_parameter-has_parameter-requires t c = let w = part_less c.args.conds.now c.loop-cond.cond-index c.cond-item.result c.loop-cond-test.true c.cond-item.is in (omega (arith, w), tt)

pub has_parameter-has_parameter-requires : goal.has_parameter-has_parameter-requires
has_parameter-has_parameter-requires t c =
    let h = ap cond_tree c.in-Not.is ∙ not_is c.in-Not.inner in
    let e : cond_tree c.args.cond.now ≡ inverted (cond_tree c.deref.result.now) = cc h in
    let w = not_less (cond_tree c.args.cond.now) (cond_tree c.deref.result.now) e in
    (omega (arith, w), tt)
