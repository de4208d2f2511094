use Rattle.std.proofs.Common.{◌≡◌, map, drop}
use Rattle.sql_ast.specs.Expressions.{listed, tree}
use Rattle.prepared_statements.specs.ParameterPlaces.{kind_of_any}
use Rattle.prepared_statements.proofs.givens.kind_of_any.Given as goal

-- no operand so far has a kind
abbrev pub invariant-loop-e : goal.invariant-loop-e
invariant-loop-e l = kind_of_any l.names l.givens (listed (map tree (drop l.e-index l.list))) ≡ kind_of_any l.names l.givens (listed (map tree l.list))
