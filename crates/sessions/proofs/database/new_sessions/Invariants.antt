use Rattle.std.proofs.Common.{◌≡◌, replicate}
use Rattle.sessions.specs.Sessions.{new_session}
use Rattle.sessions.proofs.database.new_sessions.Given as goal

abbrev pub invariant-loop : goal.invariant-loop
invariant-loop g l = l.sessions.items ≡ replicate l.counter new_session
