use Rattle.std.proofs.Common.{◌≡◌, ◌++◌, drop}
use Rattle.statement_runs.proofs.options.copied.Given as goal

abbrev pub invariant-loop-name : goal.invariant-loop-name
invariant-loop-name l = l.copy ++ drop l.name-index l.name-items ≡ l.names
