use Rattle.std.proofs.Common.{◌≡◌, ◌++◌, drop, map}
use Rattle.step_engine.specs.Run as run
use Rattle.step_engine.proofs.opening.session_names.Given as goal

abbrev pub invariant-loop-session : goal.invariant-loop-session
invariant-loop-session l = l.names ++ map run.name_of (drop l.session-index l.session-items) ≡ run.session_names l.script
