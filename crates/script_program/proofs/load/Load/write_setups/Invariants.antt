use Rattle.script_program.specs.Draws.{for_each}
use Rattle.script_program.specs.Loads.{Goes}
use Rattle.script_program.specs.LoadScript.{partition_line}
use Rattle.script_program.proofs.load.Load.write_setups.Given as goal

-- so many partitions are written
abbrev pub invariant-loop-partition : goal.invariant-loop-partition
invariant-loop-partition l = Goes (for_each 0 l.partition partition_line) l.initial.self l.self
