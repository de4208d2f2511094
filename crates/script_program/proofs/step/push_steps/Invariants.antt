use Rattle.std.proofs.Common.{◌≡◌, ◌++◌, map, take}
use Rattle.script_program.specs.Steps.{step_view}
use Rattle.script_program.proofs.step.push_steps.Given as goal

abbrev pub invariant-loop-step : goal.invariant-loop-step
invariant-loop-step l = l.out.items ≡ l.initial.out.items ++ map (step_view l.session) (take l.step-index l.step-items)
