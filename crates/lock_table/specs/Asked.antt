-- The answer to a session that asks, and what it adds to the locks, as functions of what happened (the manual, 13.3.1
-- and 13.3.4).
use Rattle.std.specs.Prelude.{ℕ, zero, suc, Bool, if◌then◌else◌, List, [], ◌∷◌, ◌++◌, Option, Some, None, map, slice_get}
use Rattle.std.specs.List.{flat_map}
use Rattle.pg_values.specs.Lists.{listed}
use Rattle.pg_values.specs.Sets.{sessions, nobody}
use Rattle.history.specs.declared.wait.Wanted.{Wanted}
use Rattle.history.specs.declared.wait.Wanted.TheVariants.{Lock, Others}
use Rattle.history.specs.Locks.{LockEvents, LockGot, WaitBegan}
use Rattle.history.specs.Waits.{is_cause, waits_with}
use Rattle.history.specs.History.{History, LockChange, lock_events}
use Rattle.lock_table.specs.declared.asked.Asked.{Asked}
use Rattle.lock_table.specs.declared.asked.Asked.TheVariants.{Granted, Waits, Deadlock}

-- ---- the least cycle

-- the sessions below n that pass the test, in ascending order
abbrev pub those_below : ℕ → (ℕ → Bool) → List ℕ
those_below zero p = []
those_below (suc n) p = those_below n p ++ (if p n then n ∷ [] else [])

-- the sessions that pass the test, in ascending order
unfoldable pub those : (ℕ → Bool) → List ℕ
those p = those_below 128 p

-- n sessions behind x, each of whom is waited for by the one before, and the last waits for s; the least of these comes first
abbrev pub chains : (ℕ → ℕ → Bool) → ℕ → ℕ → ℕ → List (List ℕ)
chains waits s zero x = if waits x s then [] ∷ [] else []
chains waits s (suc n) x = flat_map (λ y. map (λ ys. y ∷ ys) (chains waits s n y)) (those (waits x))

-- the cycles of at most n sessions that begin with s, the shortest first
abbrev pub cycles_within : ℕ → (ℕ → ℕ → Bool) → ℕ → List (List ℕ)
cycles_within zero waits s = []
cycles_within (suc n) waits s = cycles_within n waits s ++ map (λ ys. s ∷ ys) (chains waits s n s)

-- the least of the shortest cycles that begin with s
unfoldable pub least_cycle : (ℕ → ℕ → Bool) → ℕ → Option (List ℕ)
least_cycle waits s = slice_get (cycles_within 128 waits s) 0

-- ---- the answer

-- it is granted; the session waits behind others, in ascending order; or it would close this cycle
pub data AskedView : Type 0 where
  AtOnce : AskedView
  WaitsBehind : (others : List ℕ) → AskedView
  ClosesCycle : (cycle : List ℕ) → AskedView

abbrev pub asked_view : Asked → AskedView
asked_view Granted = AtOnce
asked_view (Waits behind) = WaitsBehind (sessions behind)
asked_view (Deadlock cycle) = ClosesCycle (listed cycle)

abbrev pub cycle_or_wait : Option (List ℕ) → List ℕ → AskedView
cycle_or_wait None others = WaitsBehind others
cycle_or_wait (Some cycle) others = ClosesCycle cycle

-- the answer to a session that asks
abbrev pub asked : LockEvents → ℕ → Wanted → AskedView
asked h s w = if nobody (is_cause h s w) then AtOnce else cycle_or_wait (least_cycle (waits_with h s w) s) (those (is_cause h s w))

-- ---- what it adds

abbrev pub events_of : ℕ → Wanted → AskedView → LockEvents
events_of s (Lock table mode) AtOnce = LockGot s table.number mode ∷ []
events_of s (Others what) AtOnce = []
events_of s w (WaitsBehind others) = WaitBegan s w ∷ []
events_of s w (ClosesCycle cycle) = []

-- the lock that was got, the wait that began, or nothing
abbrev pub asked_events : LockEvents → ℕ → Wanted → LockEvents
asked_events h s w = events_of s w (asked h s w)

-- the history after that
abbrev pub asked_history : History → ℕ → Wanted → History
asked_history h s w = map LockChange (asked_events (lock_events h) s w) ++ h
