use Rattle.std.proofs.Common.{◌≡◌, map, take}
use Rattle.script_program.specs.Tasks.{tasks_of}
use Rattle.script_program.proofs.permutations.all_permutations.Given as goal

abbrev pub invariant-loop-uses : goal.invariant-loop-uses
invariant-loop-uses l = l.all.items ≡ map (tasks_of l.script) (take l.uses-index l.uses-items)
