use Rattle.std.proofs.Common.{◌≡◌, map, drop}
use Rattle.sql_ast.specs.Expressions.{listed, tree}
use Rattle.sql_binder.specs.Arguments.{argument_faults}
use Rattle.sql_binder.proofs.arguments.check_arguments.Given as goal

-- no argument so far has a fault
abbrev pub invariant-loop-e : goal.invariant-loop-e
invariant-loop-e l = argument_faults l.names l.wanted (listed (map tree (drop l.e-index l.arguments))) ≡ argument_faults l.names l.kinds (listed (map tree l.arguments))
