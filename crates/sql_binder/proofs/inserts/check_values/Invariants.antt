use Rattle.std.proofs.Common.{◌≡◌, map, drop}
use Rattle.sql_ast.specs.Expressions.{listed, tree}
use Rattle.sql_binder.specs.Inserts.{value_faults}
use Rattle.sql_binder.proofs.inserts.check_values.Given as goal

-- no value so far has a fault
abbrev pub invariant-loop-e : goal.invariant-loop-e
invariant-loop-e l = value_faults l.names l.wanted (listed (map tree (drop l.e-index l.row))) ≡ value_faults l.names l.kinds (listed (map tree l.row))
