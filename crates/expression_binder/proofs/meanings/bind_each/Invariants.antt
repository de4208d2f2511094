use Rattle.std.proofs.Common.{◌≡◌, ◌++◌, map, drop, Ok}
use Rattle.std.specs.Prelude.{IfSome}
use Rattle.sql_ast.specs.Expressions.{listed, tree}
use Rattle.cond_logic.specs.Trees.{cond_tree}
use Rattle.expression_binder.specs.Meanings.{operand, each_side_faults, comparisons}
use Rattle.expression_binder.proofs.meanings.bind_each.Given as goal

-- no comparison so far has a fault, what they mean stands before what the rest means, and the left side means this in its last kind
abbrev pub invariant-loop-e : goal.invariant-loop-e
invariant-loop-e l = record {
  faults : each_side_faults l.names (tree l.x) (listed (map tree (drop l.e-index l.list))) ≡ each_side_faults l.names (tree l.x) (listed (map tree l.list));
  made : map cond_tree l.conds.items ++ comparisons l.names l.operator (tree l.x) (listed (map tree (drop l.e-index l.list))) ≡ comparisons l.names l.operator (tree l.x) (listed (map tree l.list));
  left : IfSome l.last (λ s. operand l.names s.kind (tree l.x) ≡ Ok s.operand);
}
