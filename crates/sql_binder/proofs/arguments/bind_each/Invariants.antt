use Rattle.std.proofs.Common.{◌≡◌, ◌++◌, map, drop}
use Rattle.sql_ast.specs.Expressions.{listed, tree}
use Rattle.sql_binder.specs.Arguments.{argument_constants, argument_params}
use Rattle.sql_binder.proofs.arguments.bind_each.Given as goal

-- no argument so far has a fault, and they stand before the rest
abbrev pub invariant-loop-e : goal.invariant-loop-e
invariant-loop-e l = record {
  faults : argument_constants l.names l.wanted (listed (map tree (drop l.e-index l.arguments))) ≡ argument_constants l.names l.kinds (listed (map tree l.arguments));
  made : l.params.items ++ argument_params l.names l.wanted (listed (map tree (drop l.e-index l.arguments))) ≡ argument_params l.names l.kinds (listed (map tree l.arguments));
}
