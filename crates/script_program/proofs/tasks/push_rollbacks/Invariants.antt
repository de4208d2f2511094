use Rattle.std.proofs.Common.{◌≡◌, ◌++◌, map}
use Rattle.std.specs.List.{range_with_len}
use Rattle.schedule.specs.declared.task.Task.TheVariants.{RollBack}
use Rattle.script_program.proofs.tasks.push_rollbacks.Given as goal

abbrev pub invariant-loop-session : goal.invariant-loop-session
invariant-loop-session l = l.out ≡ l.initial.out ++ map RollBack (range_with_len 0 l.session)
