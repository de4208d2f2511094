use Rattle.std.proofs.Common.{◌≡◌, drop}
use Rattle.statement_runs.specs.Kept.{interrupted_in}
use Rattle.statement_runs.proofs.executor.first_cancelled.Given as goal

abbrev pub invariant-loop-session : goal.invariant-loop-session
invariant-loop-session l = interrupted_in l.seats (drop l.session-index l.cut) ≡ interrupted_in l.seats l.cut
