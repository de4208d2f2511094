use Rattle.std.proofs.Common.{◌≡◌, ◌++◌, drop, map}
use Rattle.statement_steps.proofs.scopes.scope_columns.Given as goal
use Rattle.statement_steps.specs.Scopes.{scope_column}

abbrev pub invariant-loop-column : goal.invariant-loop-column
invariant-loop-column l = l.named.items ++ map scope_column (drop l.column-index l.columns) ≡ map scope_column l.columns
