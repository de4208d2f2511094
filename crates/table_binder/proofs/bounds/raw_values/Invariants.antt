use Rattle.std.proofs.Common.{◌≡◌, ◌++◌, map, drop}
use Rattle.sql_ast.specs.Expressions.{listed, tree}
use Rattle.table_binder.specs.Values as values
use Rattle.table_binder.proofs.bounds.raw_values.Given as goal

-- the values so far stand before the rest
abbrev pub invariant-loop-e : goal.invariant-loop-e
invariant-loop-e l = l.raw ++ values.raw_values (listed (map tree (drop l.e-index l.values))) ≡ values.raw_values (listed (map tree l.values))
