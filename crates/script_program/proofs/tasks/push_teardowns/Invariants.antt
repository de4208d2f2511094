use Rattle.std.proofs.Common.{◌≡◌, ◌++◌, take}
use Rattle.script_program.specs.Steps.{numbered}
use Rattle.script_program.specs.Tasks.{teardown_in}
use Rattle.script_program.proofs.tasks.push_teardowns.Given as goal

abbrev pub invariant-loop-i : goal.invariant-loop-i
invariant-loop-i l = l.out ≡ l.initial.out ++ numbered teardown_in 1 (take l.i l.sessions)
