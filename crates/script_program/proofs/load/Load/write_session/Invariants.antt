use Rattle.script_program.specs.Draws.{for_each}
use Rattle.script_program.specs.Loads.{Goes}
use Rattle.script_program.specs.LoadScript.{step_line}
use Rattle.script_program.proofs.load.Load.write_session.Given as goal

-- so many of its steps are written
abbrev pub invariant-loop-step : goal.invariant-loop-step
invariant-loop-step l = Goes (for_each 1 l.step (step_line l.session)) l.initial.self l.self
