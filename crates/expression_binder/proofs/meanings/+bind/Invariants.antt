use Rattle.std.proofs.Common.{◌≡◌, ◌+◌, ◌*◌, ◌++◌, map, drop}
use Rattle.sql_ast.specs.Expressions.{listed, tree}
use Rattle.cond_logic.specs.Trees.{cond_tree}
use Rattle.expression_binder.specs.Meanings.{constants_faults, meanings}
use Rattle.expression_binder.proofs.Trees.{weight, weights}
use Rattle.expression_binder.proofs.meanings.+bind.Given as goal

abbrev pub decreases-bind_condition : goal.decreases-bind_condition
decreases-bind_condition l = 2 * weight (tree l.e.now)

abbrev pub decreases-bind_parts : goal.decreases-bind_parts
decreases-bind_parts l = 2 * weights (listed (map tree l.parts.now)) + 1

-- no part so far has a fault, and what they mean stands before what the rest means
abbrev pub invariant-bind_parts-loop-part : goal.invariant-bind_parts-loop-part
invariant-bind_parts-loop-part l = record {
  faults : constants_faults l.names (listed (map tree (drop l.part-index l.parts))) ≡ constants_faults l.names (listed (map tree l.parts));
  made : map cond_tree l.conds.items ++ meanings l.names (listed (map tree (drop l.part-index l.parts))) ≡ meanings l.names (listed (map tree l.parts));
}
