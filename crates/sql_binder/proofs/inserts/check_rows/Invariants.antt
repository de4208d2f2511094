use Rattle.std.proofs.Common.{◌≡◌, map, drop, length}
use Rattle.sql_ast.specs.Expressions.{trees}
use Rattle.sql_binder.specs.Inserts.{row_faults}
use Rattle.sql_binder.proofs.inserts.check_rows.Given as goal

-- no row so far has a fault
abbrev pub invariant-loop-row : goal.invariant-loop-row
invariant-loop-row l = row_faults l.names l.kinds (length l.kinds) (map trees (drop l.row-index l.rows)) ≡ row_faults l.names l.kinds (length l.kinds) (map trees l.rows)
