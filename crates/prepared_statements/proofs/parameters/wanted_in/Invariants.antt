use Rattle.std.proofs.Common.{◌≡◌, ◌+◌, ◌++◌, drop}
use Rattle.sql_ast.specs.Queries.{row_tree}
use Rattle.prepared_statements.specs.Parameters as parameters
use Rattle.prepared_statements.specs.StatementPlaces.{statement_places}
use Rattle.prepared_statements.proofs.parameters.wanted_in.Given as goal

-- those of the parameters so far stand before the rest
abbrev pub invariant-loop-place : goal.invariant-loop-place
invariant-loop-place l = l.wanted.items ++ parameters.wanted_from (statement_places l.tables l.givens (row_tree l.statement)) (l.place + 1) (drop l.place l.declared) ≡ parameters.wanted_from (statement_places l.tables l.givens (row_tree l.statement)) 1 l.declared
