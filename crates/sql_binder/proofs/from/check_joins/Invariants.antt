use Rattle.std.proofs.Common.{◌≡◌, map, drop}
use Rattle.sql_ast.specs.Queries.{joined_tree}
use Rattle.sql_binder.specs.From.{condition_faults, on_conditions}
use Rattle.sql_binder.proofs.from.check_joins.Given as goal

-- no condition so far has a fault
abbrev pub invariant-loop-place : goal.invariant-loop-place
invariant-loop-place l = condition_faults l.params l.session (on_conditions l.items l.start l.place (map joined_tree (drop l.place l.tables))) ≡ condition_faults l.params l.session (on_conditions l.items 0 0 (map joined_tree l.tables))
