use Rattle.std.proofs.Common.{ap, sym, ◌∙◌, arith}
use Rattle.cond_logic.specs.Trees.{cond_tree, listed}
use Rattle.cond_logic.specs.Rewriting.{all_pushed_if}
use Rattle.cond_logic.proofs.Lists.{all_pushed_listed, all_made, trees_of}
use Rattle.cond_logic.proofs.pushing.+pushing.Goals as goal

pub push_list-returns : goal.push_list-returns
push_list-returns t c =
    c.from_vec.ensures
    ∙ ap listed (all_made _ _ _ _ (omega (arith, c.in-None.ensures.steps.0, c.loop-part.invariant.count)) c.loop-part.invariant.told)
    ∙ sym (all_pushed_listed cond_tree c.args.negated c.args.list.conds.items)
    ∙ ap (all_pushed_if c.args.negated) (sym (trees_of c.args.list))
