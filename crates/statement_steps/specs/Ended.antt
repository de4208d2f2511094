-- How a run of a statement ends.
use Rattle.std.specs.Prelude.{ℕ, List, [], Result, Ok, Err}
use Rattle.statement_steps.specs.Made.{Made, Halt}
use Rattle.statement_steps.specs.declared.ending.Ending.{Ending}
use Rattle.statement_steps.specs.declared.ending.Ending.TheVariants as endings
use Rattle.statement_steps.specs.declared.rest.RestOfDetach.{RestOfDetach}
use Rattle.statement_steps.specs.declared.stop.Stop.{Stop}

-- it is done, and prints a text; or what it did so far is to be committed, and it goes on there in another transaction
pub data Ended : Type 0 where
  Done : List ℕ → Ended
  Commits : RestOfDetach → Ended

-- a statement that prints nothing
abbrev pub silent_end : Ending → Ended
silent_end endings.Done = Done []
silent_end (endings.Commits d) = Commits d

abbrev pub ended : Result (Unit {0}) Stop → Result Ending Stop
ended (Ok u) = Ok endings.Done
ended (Err stop) = Err stop

-- what is given is told through a function
abbrev pub told_as : {T U : Type 0} → (T → U) → Result T Halt → Result U Halt
told_as f (Ok x) = Ok (f x)
told_as f (Err stop) = Err stop

abbrev pub giving : {T U : Type 0} → (T → U) → Made T → Made U
giving f m = record { events = m.events; told = told_as f m.told }
