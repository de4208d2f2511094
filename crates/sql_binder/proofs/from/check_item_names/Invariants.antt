use Rattle.std.proofs.Common.{◌≡◌, [], map, take, drop}
use Rattle.sql_ast.specs.Queries.{joined_tree}
use Rattle.sql_binder.specs.From.{item_name, twice_faults}
use Rattle.sql_binder.proofs.from.check_item_names.Given as goal

-- no name so far stands twice
abbrev pub invariant-loop-place : goal.invariant-loop-place
invariant-loop-place l = twice_faults (map item_name (map joined_tree (take l.place l.tables))) (map item_name (map joined_tree (drop l.place l.tables))) ≡ twice_faults [] (map item_name (map joined_tree l.tables))
