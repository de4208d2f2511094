-- What a call does, by what its words ask for.
use Rattle.std.specs.Prelude.{ℕ, Bool, true, false, List, Option, option_map}
use Rattle.script_program.specs.CommandLine.{asked_by}
use Rattle.script_program.specs.declared.asked.Asked.{Asked}
use Rattle.script_program.specs.declared.asked.Mode.{Mode}
use Rattle.script_program.specs.declared.asked.Mode.TheVariants as modes
use Rattle.script_program.specs.declared.work.Work.{Work}
use Rattle.script_program.specs.declared.work.Work.TheVariants.{Run, Check, Load}

-- a run is printed with the trails of its statements, or without them; that of the script of a seed is counted
abbrev pub work_in : Mode → (trail : Bool) → (seed : ℕ) → Work
work_in modes.Run trail seed = Run trail
work_in modes.Check trail seed = Check
work_in modes.Gen trail seed = Load seed

abbrev pub work_of : Asked → Work
work_of asked = work_in asked.mode asked.trail asked.seed

-- nothing, where the words ask for nothing
abbrev pub work_by : List (List ℕ) → Option Work
work_by words = option_map work_of (asked_by words)

-- the script of a seed is made, and no input is read for it
abbrev pub reads_input : Work → Bool
reads_input (Run trail) = true
reads_input Check = true
reads_input (Load seed) = false
