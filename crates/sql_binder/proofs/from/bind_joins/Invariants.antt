use Rattle.std.proofs.Common.{◌≡◌, ◌++◌, map, drop}
use Rattle.cond_logic.specs.Trees.{cond_tree}
use Rattle.sql_ast.specs.Queries.{joined_tree}
use Rattle.sql_binder.specs.From.{condition_constants, condition_meanings, on_conditions}
use Rattle.sql_binder.proofs.from.bind_joins.Given as goal

-- no condition so far has a fault, and what they mean stands before what the rest means
abbrev pub invariant-loop-place : goal.invariant-loop-place
invariant-loop-place l = record {
  faults : condition_constants l.params l.session (on_conditions l.items l.start l.place (map joined_tree (drop l.place l.tables))) ≡ condition_constants l.params l.session (on_conditions l.items 0 0 (map joined_tree l.tables));
  made : map cond_tree l.conds.items ++ condition_meanings l.params l.session (on_conditions l.items l.start l.place (map joined_tree (drop l.place l.tables))) ≡ condition_meanings l.params l.session (on_conditions l.items 0 0 (map joined_tree l.tables));
}
