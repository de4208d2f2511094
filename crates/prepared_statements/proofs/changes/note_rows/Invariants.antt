use Rattle.std.proofs.Common.{◌≡◌, map, drop}
use Rattle.sql_ast.specs.Expressions.{trees}
use Rattle.prepared_statements.specs.Firsts.{noted}
use Rattle.prepared_statements.specs.StatementPlaces.{column_kind, row_places}
use Rattle.prepared_statements.proofs.changes.note_rows.Given as goal

-- what is noted, and what the rest gives
abbrev pub invariant-loop-row : goal.invariant-loop-row
invariant-loop-row l = noted l.firsts (row_places l.givens (map column_kind l.columns) (map trees (drop l.row-index l.rows))) ≡ noted l.fn.firsts (row_places l.givens (map column_kind l.columns) (map trees l.rows))
