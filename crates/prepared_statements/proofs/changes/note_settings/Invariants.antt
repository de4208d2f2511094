use Rattle.std.proofs.Common.{◌≡◌, map, drop}
use Rattle.sql_ast.specs.Queries.{setting}
use Rattle.prepared_statements.specs.Firsts.{noted}
use Rattle.prepared_statements.specs.StatementPlaces.{settings_places}
use Rattle.prepared_statements.proofs.changes.note_settings.Given as goal

-- what is noted, and what the rest gives
abbrev pub invariant-loop-assignment : goal.invariant-loop-assignment
invariant-loop-assignment l = noted l.firsts (settings_places l.item l.givens (map setting (drop l.assignment-index l.settings))) ≡ noted l.fn.firsts (settings_places l.item l.givens (map setting l.settings))
