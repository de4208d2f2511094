use Rattle.std.proofs.Common.{◌≡◌, map, drop}
use Rattle.sql_ast.specs.Expressions.{listed, tree}
use Rattle.expression_binder.specs.Conditions.{list_faults}
use Rattle.expression_binder.specs.Operands.{all_typed}
use Rattle.expression_binder.proofs.conditions.check_each.Given as goal

-- no comparison so far has a fault
abbrev pub invariant-loop-e : goal.invariant-loop-e
invariant-loop-e l = list_faults l.operator l.left (all_typed l.names (listed (map tree (drop l.e-index l.list)))) ≡ list_faults l.operator l.left (all_typed l.names (listed (map tree l.list)))
