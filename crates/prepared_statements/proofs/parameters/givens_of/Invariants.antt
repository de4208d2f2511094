use Rattle.std.proofs.Common.{◌≡◌, ◌++◌, map, drop}
use Rattle.sql_ast.specs.Expressions.{listed, tree}
use Rattle.prepared_statements.specs.Parameters as parameters
use Rattle.prepared_statements.proofs.parameters.givens_of.Given as goal

-- those of the parameters so far stand before the rest
abbrev pub invariant-loop-e : goal.invariant-loop-e
invariant-loop-e l = l.givens.items ++ parameters.givens_of l.kinds (listed (map tree (drop l.e-index l.arguments))) ≡ parameters.givens_of l.declared (listed (map tree l.arguments))
