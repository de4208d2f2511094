use Rattle.std.proofs.Common.{◌≡◌, [], drop, map}
use Rattle.cond_logic.specs.Trees.{cond_tree}
use Rattle.select_answer.specs.Tuples.{no_tuple, passes}
use Rattle.select_statement.proofs.cancels.pass.Given as goal

abbrev pub invariant-loop-cond : goal.invariant-loop-cond
invariant-loop-cond l = passes [] (map cond_tree (drop l.cond-index l.conditions)) no_tuple ≡ passes [] (map cond_tree l.conditions) no_tuple
