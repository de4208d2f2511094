use Rattle.std.proofs.Common.{◌≡◌, drop}
use Rattle.std.specs.List.{list_any}
use Rattle.std.specs.Str.{bytes_eq}
use Rattle.table_binder.specs.Columns.{names_of}
use Rattle.table_binder.proofs.columns.is_among.Given as goal

-- no column so far has the name
abbrev pub invariant-loop-column : goal.invariant-loop-column
invariant-loop-column l = list_any (bytes_eq l.name) (names_of (drop l.column-index l.columns)) ≡ list_any (bytes_eq l.name) (names_of l.columns)
