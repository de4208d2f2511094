use Rattle.std.proofs.Common.{◌≡◌, map, drop}
use Rattle.sql_ast.specs.Queries.{key_tree}
use Rattle.prepared_statements.specs.Firsts.{noted}
use Rattle.prepared_statements.specs.StatementPlaces.{keys_places}
use Rattle.prepared_statements.proofs.selects.note_keys.Given as goal

-- what is noted, and what the rest gives
abbrev pub invariant-loop-key : goal.invariant-loop-key
invariant-loop-key l = noted l.firsts (keys_places l.names l.givens (map key_tree (drop l.key-index l.keys))) ≡ noted l.fn.firsts (keys_places l.names l.givens (map key_tree l.keys))
