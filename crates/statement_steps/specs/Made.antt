-- What a part of a statement makes of a history, and how it ends.
use Rattle.std.specs.Prelude.{ℕ, ◌+◌, [], ◌++◌, Option, Some, None, Result, Ok, Err, List, ◌∷◌}
use Rattle.pg_values.specs.declared.fault.Fault.{Fault}
use Rattle.history.specs.History.{History}
use Rattle.statement_steps.specs.declared.rest.Rest.{Rest}

-- it stops: it has to wait, and will go on where it stood, or else begin anew; or it is refused
pub data Halt : Type 0 where
  Waits : Option Rest → Halt
  Refused : Fault → Halt

-- the number under which a command goes on that waits: in the middle of its run it is the transaction's next one, since what
-- it did so far it did under its own
abbrev pub number_after : Option Rest → ℕ → ℕ
number_after None n = n
number_after (Some rest) n = n + 1

-- the events, the newest first, and what comes of them
pub record Made (T : Type 0) : Type 0 where
  pub events : History
  pub told : Result T Halt

abbrev pub made : {T : Type 0} → History → T → Made T
made events x = record { events = events; told = Ok x }

abbrev pub halted : {T : Type 0} → History → Halt → Made T
halted events stop = record { events = events; told = Err stop }

-- a part by which nothing happens: what it gives, or the fault
abbrev pub answered : {T : Type 0} → Result T Fault → Made T
answered (Ok x) = made [] x
answered (Err f) = halted [] (Refused f)

-- a part behind another one, whose events are given
abbrev pub behind : {T : Type 0} → History → Made T → Made T
behind events m = record { events = m.events ++ events; told = m.told }

-- a part that goes on from what the one before it gave, and at the history that it left
abbrev pub then_told : {T U : Type 0} → Result T Halt → History → (T → Made U) → Made U
then_told (Ok x) events next = behind events (next x)
then_told (Err stop) events next = halted events stop

abbrev pub and_then : {T U : Type 0} → Made T → (T → Made U) → Made U
and_then m next = then_told m.told m.events next

-- the first fault, if there is one, or else the events
abbrev pub unless_refused : List Fault → History → Made (Unit {0})
unless_refused [] events = made events tt
unless_refused (f ∷ fs) events = halted [] (Refused f)
