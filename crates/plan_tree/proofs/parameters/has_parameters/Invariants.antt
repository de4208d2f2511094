use Rattle.std.proofs.Common.{◌≡◌, drop, map}
use Rattle.std.specs.List.{list_any}
use Rattle.cond_logic.specs.Trees.{cond_tree}
use Rattle.plan_tree.specs.Parameters.{has_parameter}
use Rattle.plan_tree.proofs.parameters.has_parameters.Given as goal

abbrev pub invariant-loop-cond : goal.invariant-loop-cond
invariant-loop-cond l = list_any has_parameter (map cond_tree (drop l.cond-index l.conds)) ≡ list_any has_parameter (map cond_tree l.conds)
