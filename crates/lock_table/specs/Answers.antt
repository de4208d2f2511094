-- What comes of asking.
use Rattle.std.specs.Prelude.{◌≡◌, ℕ, ◌==◌, ◌&&◌, Bool, true, ◌∷◌, length, Option, Some, None}
use Rattle.pg_values.specs.Lists.{listed}
use Rattle.pg_values.specs.Sets.{has, nobody}
use Rattle.pg_values.specs.declared.lock_mode.LockMode.{LockMode}
use Rattle.pg_values.specs.declared.session_set.SessionSet.{SessionSet}
use Rattle.history.specs.declared.wait.Wanted.{Wanted}
use Rattle.history.specs.declared.wait.Wanted.TheVariants.{Lock, Others}
use Rattle.history.specs.Locks.{LockEvents, LockGot, WaitBegan, holds_against, queue}
use Rattle.history.specs.Waits.{is_cause, waits_with, IsFree, ClosesNone, IsLeastCycle}
use Rattle.history.specs.History.{History, LockChange}
use Rattle.lock_table.specs.declared.asked.Asked.{Asked}
use Rattle.lock_table.specs.declared.asked.Asked.TheVariants.{Granted, Waits, Deadlock}

-- these are the causes to wait, there are some, and the wait closes no cycle
pub record IsBehind (h : LockEvents) (s : ℕ) (w : Wanted) (behind : SessionSet) : Type 0 where
  pub all : (y : ℕ) → has behind y ≡ is_cause h s w y
  pub some : (y : ℕ) × (is_cause h s w y ≡ true)
  pub acyclic : ClosesNone h s w

-- nobody waits, and nobody holds a mode on the table that conflicts with m
abbrev pub unopposed : LockEvents → ℕ → LockMode → Bool
unopposed h t m = (length (queue h) == 0) && nobody (λ y. holds_against h y t m)

-- the answer to a session that asks
abbrev pub IsAnswer : LockEvents → ℕ → Wanted → Asked → Type 0
IsAnswer h s w Granted = IsFree h s w
IsAnswer h s w (Waits behind) = IsBehind h s w behind
IsAnswer h s w (Deadlock cycle) = IsLeastCycle (waits_with h s w) s (listed cycle)

-- what happened then: it got a lock, or began to wait, or nothing
abbrev pub after : ℕ → Wanted → Asked → History → History
after s (Lock table mode) Granted h = LockChange (LockGot s table.number mode) ∷ h
after s (Others what) Granted h = h
after s w (Waits behind) h = LockChange (WaitBegan s w) ∷ h
after s w (Deadlock cycle) h = h

-- what the session waits for then
abbrev pub left_waiting : Wanted → Asked → Option Wanted
left_waiting w (Waits behind) = Some w
left_waiting w a = None
