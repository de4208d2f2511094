use Rattle.std.proofs.Common.{◌≡◌, map, drop}
use Rattle.sql_ast.specs.Expressions.{listed, tree}
use Rattle.prepared_statements.specs.Firsts.{noted}
use Rattle.prepared_statements.specs.StatementPlaces.{kind_named, value_places}
use Rattle.prepared_statements.proofs.changes.note_named_row.Given as goal

-- what is noted, and what the rest gives
abbrev pub invariant-loop-e : goal.invariant-loop-e
invariant-loop-e l = noted l.firsts (value_places l.givens (map (kind_named l.columns) l.wanted) (listed (map tree (drop l.e-index l.row)))) ≡ noted l.fn.firsts (value_places l.givens (map (kind_named l.columns) l.names) (listed (map tree l.row)))
