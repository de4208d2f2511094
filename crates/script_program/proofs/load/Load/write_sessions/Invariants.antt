use Rattle.script_program.specs.Draws.{for_each}
use Rattle.script_program.specs.Loads.{Goes}
use Rattle.script_program.specs.LoadScript.{session_lines}
use Rattle.script_program.proofs.load.Load.write_sessions.Given as goal

-- so many sessions are written
abbrev pub invariant-loop-session : goal.invariant-loop-session
invariant-loop-session l = Goes (for_each 1 l.session session_lines) l.initial.self l.self
