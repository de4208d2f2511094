-- The exit status of each answer.
use Rattle.std.specs.Prelude.{ℕ}
use Rattle.script_program.specs.declared.ended.Ended.{Ended}
use Rattle.script_program.specs.declared.ended.Ended.TheVariants.{Done, ScriptRefused, Usage, TooLarge, ReadFault, WriteFault, NoMemory}

abbrev pub status : Ended → ℕ
status Done = 0
status ScriptRefused = 1
status Usage = 2
status TooLarge = 3
status ReadFault = 4
status WriteFault = 5
status NoMemory = 6
