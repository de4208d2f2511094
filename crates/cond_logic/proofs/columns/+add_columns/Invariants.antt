use Rattle.std.proofs.Common.{◌≡◌, drop, map}
use Rattle.cond_logic.specs.Trees.{cond_tree, listed}
use Rattle.cond_logic.specs.Columns.{columns_of, all_columns, with_new}
use Rattle.cond_logic.proofs.columns.+add_columns.Given as goal

-- the columns so far, with those of the conditions that are left, are all
abbrev pub invariant-loop-part : goal.invariant-loop-part
invariant-loop-part l = with_new l.found.items (all_columns (listed (map cond_tree (drop l.part-index l.part-items)))) ≡ with_new l.fn.found.items (columns_of (cond_tree l.cond))

abbrev pub invariant-loop-choice : goal.invariant-loop-choice
invariant-loop-choice l = with_new l.found.items (all_columns (listed (map cond_tree (drop l.choice-index l.choice-items)))) ≡ with_new l.fn.found.items (columns_of (cond_tree l.cond))
