use Rattle.std.proofs.Common.{◌≡◌, map, drop}
use Rattle.std.specs.List.{list_any}
use Rattle.std.specs.Str.{bytes_eq}
use Rattle.sql_ast.specs.Queries.{setting}
use Rattle.sql_binder.specs.Changes.{column_set}
use Rattle.sql_binder.proofs.changes.is_set.Given as goal

-- none so far is of that column
abbrev pub invariant-loop-assignment : goal.invariant-loop-assignment
invariant-loop-assignment l = list_any (bytes_eq l.name) (map column_set (map setting (drop l.assignment-index l.earlier))) ≡ list_any (bytes_eq l.name) (map column_set (map setting l.earlier))
