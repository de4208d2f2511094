use Rattle.std.proofs.Common.{◌≡◌, drop, map}
use Rattle.cond_logic.specs.Trees.{cond_tree, listed}
use Rattle.cond_logic.specs.Truths.{truth, least, greatest, least_of, greatest_of}
use Rattle.cond_logic.proofs.evaluate.+eval_tree.Given as goal

-- the truth so far and that of the rest make the truth of all
abbrev pub invariant-loop-part : goal.invariant-loop-part
invariant-loop-part l = least l.all (least_of l.binding.rows l.binding.args (listed (map cond_tree (drop l.part-index l.part-items)))) ≡ truth l.binding.rows l.binding.args (cond_tree l.cond)

abbrev pub invariant-loop-choice : goal.invariant-loop-choice
invariant-loop-choice l = greatest l.any (greatest_of l.binding.rows l.binding.args (listed (map cond_tree (drop l.choice-index l.choice-items)))) ≡ truth l.binding.rows l.binding.args (cond_tree l.cond)
