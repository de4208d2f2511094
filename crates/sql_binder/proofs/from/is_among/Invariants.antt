use Rattle.std.proofs.Common.{◌≡◌, map, drop}
use Rattle.std.specs.List.{list_any}
use Rattle.std.specs.Str.{bytes_eq}
use Rattle.sql_ast.specs.Queries.{joined_tree}
use Rattle.sql_binder.specs.From.{item_name}
use Rattle.sql_binder.proofs.from.is_among.Given as goal

-- no item so far has the name
abbrev pub invariant-loop-table : goal.invariant-loop-table
invariant-loop-table l = list_any (bytes_eq l.name) (map item_name (map joined_tree (drop l.table-index l.tables))) ≡ list_any (bytes_eq l.name) (map item_name (map joined_tree l.tables))
