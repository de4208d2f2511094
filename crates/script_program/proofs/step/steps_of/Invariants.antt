use Rattle.std.proofs.Common.{◌≡◌, take}
use Rattle.script_program.specs.Steps.{numbered, steps_in}
use Rattle.script_program.proofs.step.steps_of.Given as goal

abbrev pub invariant-loop-i : goal.invariant-loop-i
invariant-loop-i l = l.all.items ≡ numbered steps_in 1 (take l.i l.sessions)
