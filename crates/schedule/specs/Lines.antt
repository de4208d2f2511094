-- The lines of a run, in the form of isolationtester. Every line ends in a newline.
use Rattle.std.specs.Prelude.{ℕ, ◌-◌, List, [], ◌++◌, Option, Some, None, if◌then◌else◌, codes, decimal}
use Rattle.std.specs.List.{flat_map}
use Rattle.pg_values.specs.declared.fault.Fault.{Fault}
use Rattle.schedule.specs.Blocks.{Seated, is_step}
use Rattle.schedule.specs.Rules.{Rules}
use Rattle.schedule.specs.declared.task.Task.{Task}
use Rattle.schedule.specs.declared.task.Task.TheVariants.{Launch, Settle, RollBack}

-- the first line: the control session is not counted
abbrev pub heading : ℕ → List ℕ
heading sessions = codes "Parsed test spec with " ++ decimal (sessions - 1) ++ codes " sessions\n"

-- the name of a launched step, with a space before it
abbrev pub name_of_step : Task → List ℕ
name_of_step (Launch b) = if is_step b.kind then codes " " ++ b.name else []
name_of_step Settle = []
name_of_step (RollBack s) = []

-- an empty line, and the steps in the order of the permutation
abbrev pub permutation_lines : List Task → List ℕ
permutation_lines tasks = codes "\nstarting permutation:" ++ flat_map name_of_step tasks ++ codes "\n"

-- a line of a step
abbrev pub step_line : Seated → List ℕ → List ℕ
step_line seat line = codes "step " ++ seat.name ++ codes ": " ++ line ++ codes "\n"

-- it waits
abbrev pub waiting_line : Seated → List ℕ
waiting_line seat = step_line seat (seat.text ++ codes " <waiting ...>")

-- it has ended, at its launch or after a wait
abbrev pub end_line : Seated → List ℕ
end_line seat = step_line seat (if seat.waited then codes "<... completed>" else seat.text)

-- the error of a block that has failed, with what stands before it in its line
abbrev pub error_line : {S : Type 0} → Rules S → List ℕ → Option Fault → List ℕ
error_line R before None = []
error_line R before (Some fault) = before ++ codes "ERROR:  " ++ R.fault_text fault ++ codes "\n"

-- the end of a step, and under it what it printed and its error
abbrev pub end_lines : {S : Type 0} → Rules S → S → ℕ → Seated → List ℕ
end_lines R v s seat = end_line seat ++ R.report v s ++ error_line R [] (R.fault v s)

-- what a session's teardown printed, and its error
abbrev pub teardown_lines : {S : Type 0} → Rules S → S → ℕ → Seated → List ℕ
teardown_lines R v s seat = R.report v s ++ error_line R (codes "teardown of " ++ seat.name ++ codes ": ") (R.fault v s)
