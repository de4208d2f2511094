use Rattle.std.proofs.Common.{◌≡◌, None, replicate}
use Rattle.statement_runs.proofs.seats.nothing_left.Given as goal

abbrev pub invariant-loop : goal.invariant-loop
invariant-loop l = l.rests.items ≡ replicate l.counter None
