use Rattle.std.proofs.Common.{◌≡◌, ◌++◌, codes, take}
use Rattle.std.specs.List.{flat_map}
use Rattle.schedule.specs.Lines.{name_of_step}
use Rattle.schedule.proofs.line.permutation_lines.Given as goal

-- the steps so far are named
abbrev pub invariant-loop-task : goal.invariant-loop-task
invariant-loop-task l = l.text.items ≡ codes "\nstarting permutation:" ++ flat_map name_of_step (take l.task-index l.tasks)
