use Rattle.std.proofs.Common.{◌≡◌, ◌++◌, take}
use Rattle.std.specs.List.{flat_map}
use Rattle.script_program.specs.Tasks.{use_in}
use Rattle.script_program.proofs.tasks.push_uses.Given as goal

abbrev pub invariant-loop-one : goal.invariant-loop-one
invariant-loop-one l = l.out ≡ l.initial.out ++ flat_map (use_in l.steps) (take l.one-index l.uses)
