use Rattle.std.proofs.Common.{◌≡◌, ◌++◌, map, drop}
use Rattle.sql_ast.specs.Expressions.{trees}
use Rattle.sql_binder.specs.Inserts.{row_constants, all_values}
use Rattle.sql_binder.proofs.inserts.bind_rows.Given as goal

-- no row so far has a fault, and they stand before the rest
abbrev pub invariant-loop-row : goal.invariant-loop-row
invariant-loop-row l = record {
  faults : row_constants l.names l.kinds (map trees (drop l.row-index l.rows)) ≡ row_constants l.names l.kinds (map trees l.rows);
  made : l.made.items ++ all_values l.names l.kinds (map trees (drop l.row-index l.rows)) ≡ all_values l.names l.kinds (map trees l.rows);
}
