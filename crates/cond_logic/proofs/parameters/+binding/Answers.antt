use Rattle.std.proofs.Common.{length, ap, sym, ◌∙◌, arith}
use Rattle.std.proofs.lemmas.List.{drop_all}
use Rattle.cond_logic.specs.Trees.{cond_tree, listed}
use Rattle.cond_logic.proofs.Lists.{all_with_args_listed, all_made}
use Rattle.cond_logic.proofs.parameters.+binding.Goals as goal

pub bind_all-returns : goal.bind_all-returns
bind_all-returns t c =
    ap listed (all_made _ _ _ _ (ap length (drop_all c.loop-part.part-index c.args.conds.now (omega (arith, c.loop-part-test.false)))) c.loop-part.invariant)
    ∙ sym (all_with_args_listed cond_tree c.args.args.now c.args.conds.now)
