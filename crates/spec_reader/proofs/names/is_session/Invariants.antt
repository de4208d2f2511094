use Rattle.std.proofs.Common.{◌≡◌, drop}
use Rattle.spec_reader.specs.Faults.{is_session}
use Rattle.spec_reader.proofs.names.is_session.Given as goal

-- none of those so far is called so
abbrev pub invariant-loop-session : goal.invariant-loop-session
invariant-loop-session l = is_session l.name (drop l.session-index l.sessions) ≡ is_session l.fn.name l.fn.sessions
