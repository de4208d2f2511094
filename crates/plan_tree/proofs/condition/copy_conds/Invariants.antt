use Rattle.std.proofs.Common.{◌≡◌, ◌++◌, map, drop}
use Rattle.cond_logic.specs.Trees.{cond_tree}
use Rattle.plan_tree.proofs.condition.copy_conds.Given as goal

abbrev pub invariant-loop-cond : goal.invariant-loop-cond
invariant-loop-cond l = map cond_tree l.all.items ++ map cond_tree (drop l.cond-index l.conds) ≡ map cond_tree l.conds
