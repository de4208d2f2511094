use Rattle.std.proofs.Common.{◌≡◌, map, drop}
use Rattle.sql_ast.specs.Queries.{item_tree}
use Rattle.prepared_statements.specs.Firsts.{noted}
use Rattle.prepared_statements.specs.StatementPlaces.{list_places}
use Rattle.prepared_statements.proofs.selects.note_list.Given as goal

-- what is noted, and what the rest gives
abbrev pub invariant-loop-listed : goal.invariant-loop-listed
invariant-loop-listed l = noted l.firsts (list_places l.names l.givens (map item_tree (drop l.listed-index l.list))) ≡ noted l.fn.firsts (list_places l.names l.givens (map item_tree l.list))
