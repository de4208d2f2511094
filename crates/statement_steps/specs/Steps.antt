-- A part of a statement that runs over the stores: what is told of it, by a function of the history.
use Rattle.std.specs.Prelude.{◌≡◌, ℕ, ◌+◌, [], ◌∷◌, ◌++◌, Option, Result, Ok, Err}
use Rattle.history.specs.History.{History}
use Rattle.lock_table.specs.Stands.{IsIdle}
use Rattle.stores.specs.Stand.{Stands}
use Rattle.stores.specs.Numbers.{IsAt}
use Rattle.stores.specs.declared.stores.Stores.{Stores}
use Rattle.statement_steps.specs.Made.{Made, Halt, Waits, Refused, and_then}
use Rattle.statement_steps.specs.Attempts.{NoRows, WentOn, GoesOn, IsWaiting}
use Rattle.statement_steps.specs.declared.caller.Caller.{Caller}
use Rattle.statement_steps.specs.declared.rest.Rest.{Rest}
use Rattle.statement_steps.specs.declared.stop.Stop.{Stop}
use Rattle.statement_steps.specs.declared.stop.Stop.TheVariants as stop

-- want of memory apart, what came of it is what is told, and the stores stand for the history with its events; the next
-- command has the number n where the part is done
abbrev pub IsTold : {X T : Type 0} → (X → T) → Result X Stop → Stores → Caller → (n : ℕ) → History → Made T → Type 0
IsTold view (Ok x) new caller n h m = (m.told ≡ Ok (view x)) × WentOn h caller.session n [] new (m.events ++ h)
IsTold view (Err (stop.Waits rest)) new caller n h m = (m.told ≡ Err (Waits rest)) × WentOn h caller.session caller.cmd (caller.session ∷ []) new (m.events ++ h)
IsTold view (Err (stop.Refused f)) new caller n h m = (m.told ≡ Err (Refused f)) × WentOn h caller.session (caller.cmd + 1) [] new (m.events ++ h)
IsTold view (Err stop.NoMemory) new caller n h m = Unit {0}

-- the session waits just where the answer says so
abbrev pub IsPaused : {X : Type 0} → Result X Stop → Stores → (session : ℕ) → Type 0
IsPaused (Ok x) stores s = IsIdle stores.locks s
IsPaused (Err (stop.Waits rest)) stores s = IsWaiting stores s
IsPaused (Err (stop.Refused f)) stores s = IsIdle stores.locks s
IsPaused (Err stop.NoMemory) stores s = Unit {0}

-- and for no row
abbrev pub IsHalted : {X : Type 0} → Result X Stop → Stores → (session : ℕ) → Type 0
IsHalted (Ok x) stores s = IsIdle stores.locks s
IsHalted (Err (stop.Waits rest)) stores s = IsWaiting stores s × NoRows rest
IsHalted (Err (stop.Refused f)) stores s = IsIdle stores.locks s
IsHalted (Err stop.NoMemory) stores s = Unit {0}

-- a part is what the function says of each history that the stores stand for
pub record IsStep {X T : Type 0} (view : X → T) (result : Result X Stop) (old new : Stores) (caller : Caller) (n : ℕ) (f : History → Made T) : Type 0 where
  pub is : (h : History) → Stands old h → IsAt h caller.session caller.cmd → IsTold view result new caller n h (f h)
  pub keeps : GoesOn old new caller.session
  pub waits : IsHalted result new caller.session

-- so is a part that may wait for a row
pub record IsPart {X T : Type 0} (view : X → T) (result : Result X Stop) (old new : Stores) (caller : Caller) (n : ℕ) (f : History → Made T) : Type 0 where
  pub is : (h : History) → Stands old h → IsAt h caller.session caller.cmd → IsTold view result new caller n h (f h)
  pub keeps : GoesOn old new caller.session
  pub waits : IsPaused result new caller.session

-- one part after another, which begins with what the first gave, at the history that it left
abbrev pub follow : {T U : Type 0} → (History → Made T) → (T → History → Made U) → History → Made U
follow f next h = and_then (f h) (λ x. next x ((f h).events ++ h))

-- a statement that stands in the middle of its run goes on from there, whatever it has to wait for
abbrev pub told_on : {T : Type 0} → Option Rest → Result T Halt → Result T Halt
told_on rest (Ok x) = Ok x
told_on rest (Err (Waits lock)) = Err (Waits rest)
told_on rest (Err (Refused f)) = Err (Refused f)

abbrev pub stopped_on : Stop → Option Rest → Stop
stopped_on (stop.Waits lock) rest = stop.Waits rest
stopped_on (stop.Refused f) rest = stop.Refused f
stopped_on stop.NoMemory rest = stop.NoMemory

abbrev pub going_on : {T : Type 0} → Option Rest → Made T → Made T
going_on rest m = record { events = m.events; told = told_on rest m.told }
