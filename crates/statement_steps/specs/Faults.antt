-- What a refusal tells of sessions, and how a refusal stops a statement.
use Rattle.std.specs.Prelude.{ℕ, List, [], Result, Ok, Err, slice_index_or}
use Rattle.pg_values.specs.declared.fault.Fault.{Fault}
use Rattle.pg_values.specs.declared.fault.Refusal.{Refusal}
use Rattle.pg_values.specs.declared.fault.Refusal.TheVariants as refusal
use Rattle.pg_values.specs.declared.text.NoMemory.{NoMemory}
use Rattle.statement_steps.specs.declared.stop.Stop.{Stop}
use Rattle.statement_steps.specs.declared.stop.Stop.TheVariants as stop

-- the names of the sessions by their numbers, the control session's first
abbrev pub name_of : List (List ℕ) → ℕ → List ℕ
name_of names s = slice_index_or names s []

-- why a statement stops that is refused with a fault, if there was memory to tell it
abbrev pub stop_by : Result Fault NoMemory → Stop
stop_by (Ok f) = stop.Refused f
stop_by (Err e) = stop.NoMemory

-- a refusal ends the statement
abbrev pub stop_of : Refusal → Stop
stop_of (refusal.Sql f) = stop.Refused f
stop_of refusal.NoMemory = stop.NoMemory
