use Rattle.std.proofs.Common.{◌≡◌, [], map, replicate}
use Rattle.prepared_statements.specs.Kept.{listed}
use Rattle.statement_runs.proofs.executor.nothing_prepared.Given as goal

abbrev pub invariant-loop : goal.invariant-loop
invariant-loop l = map listed l.lists.items ≡ replicate l.counter []
