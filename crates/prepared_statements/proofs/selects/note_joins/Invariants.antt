use Rattle.std.proofs.Common.{◌≡◌, map, drop}
use Rattle.sql_ast.specs.Queries.{joined_tree}
use Rattle.prepared_statements.specs.Firsts.{noted}
use Rattle.prepared_statements.specs.StatementPlaces.{on_places}
use Rattle.prepared_statements.proofs.selects.note_joins.Given as goal

-- what is noted, and what the rest gives
abbrev pub invariant-loop-place : goal.invariant-loop-place
invariant-loop-place l = noted l.firsts (on_places l.items l.givens l.start l.place (map joined_tree (drop l.place l.tables))) ≡ noted l.fn.firsts (on_places l.items l.givens 0 0 (map joined_tree l.tables))
