use Rattle.std.proofs.Common.{◌≡◌, ◌++◌, map, take, codes}
use Rattle.schedule.specs.declared.block.BlockKind.TheVariants.{Setup}
use Rattle.script_program.specs.Tasks.{plain}
use Rattle.script_program.proofs.tasks.push_control_setups.Given as goal

abbrev pub invariant-loop-text : goal.invariant-loop-text
invariant-loop-text l = l.out ≡ l.initial.out ++ map (plain Setup 0 (codes "control")) (take l.text-index l.setups)
