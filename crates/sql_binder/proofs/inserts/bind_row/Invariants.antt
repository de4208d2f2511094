use Rattle.std.proofs.Common.{◌≡◌, ◌++◌, map, drop}
use Rattle.sql_ast.specs.Expressions.{listed, tree}
use Rattle.sql_binder.specs.Inserts.{value_constants, row_values}
use Rattle.sql_binder.proofs.inserts.bind_row.Given as goal

-- no value so far has a fault, and they stand before the rest
abbrev pub invariant-loop-e : goal.invariant-loop-e
invariant-loop-e l = record {
  faults : value_constants l.names l.wanted (listed (map tree (drop l.e-index l.values))) ≡ value_constants l.names l.kinds (listed (map tree l.values));
  made : l.row ++ row_values l.names l.wanted (listed (map tree (drop l.e-index l.values))) ≡ row_values l.names l.kinds (listed (map tree l.values));
}
