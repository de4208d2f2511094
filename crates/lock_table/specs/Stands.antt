-- When a lock table stands for what happened.
use Rattle.std.specs.Prelude.{◌≡◌, ◌≢◌, ℕ, ◌+◌, ◌*◌, ◌≤◌, ◌<◌, List, [], ◌∷◌, ◌++◌, Option, Some, None, length, slice_index_or, slice_set, is_some, nat_eq, Bool}
use Rattle.std.specs.List.{list_any, AllPairs}
use Rattle.pg_values.specs.Sets.{has}
use Rattle.pg_values.specs.declared.ids.TableNo.{TableNo}
use Rattle.pg_values.specs.declared.lock_mode.LockMode.{LockMode}
use Rattle.pg_values.specs.declared.session_set.SessionSet.{SessionSet}
use Rattle.history.specs.declared.wait.WaitOn.{WaitOn}
use Rattle.history.specs.declared.wait.WaitOn.TheVariants.{Ends, Snapshots}
use Rattle.history.specs.declared.wait.Wanted.{Wanted}
use Rattle.history.specs.declared.wait.Wanted.TheVariants.{Lock, Others}
use Rattle.history.specs.Locks.{LockEvents, holds, wanted, queue, removed}
use Rattle.history.specs.LocksSound.{AreLocksSound}
use Rattle.history.specs.History.{History, lock_events}
use Rattle.lock_table.specs.Kept.{KeptLocks, held_at}

-- what is kept tells who holds what and who waits for what
pub record Tells (sets : List SessionSet) (waits : List (Option Wanted)) (waiting : List ℕ) (h : LockEvents) : Type 0 where
  pub held : (s t : ℕ) (m : LockMode) → has (held_at sets t m) s ≡ holds h s t m
  pub wants : (s : ℕ) → slice_index_or waits s None ≡ wanted h s
  pub queue : waiting ≡ queue h

pub record StandsFor (kept : KeptLocks) (h : LockEvents) : Type 0 where
  pub sound : AreLocksSound h
  pub tells : Tells kept.held kept.wants kept.queue h

-- the table stands for the history
abbrev pub TableStands : KeptLocks → History → Type 0
TableStands kept h = StandsFor kept (lock_events h)

-- what is waited for is a lock on one of so many tables, or no lock
abbrev pub IsKnown : ℕ → Option Wanted → Type 0
IsKnown n w = (table : TableNo) (m : LockMode) → w ≡ Some (Lock table m) → table.number < n

-- there is a place for the lock that is waited for
abbrev pub IsPlaced : ℕ → Option Wanted → Type 0
IsPlaced n w = (table : TableNo) (m : LockMode) → w ≡ Some (Lock table m) → 8 * table.number + 7 < n

-- what is always so of a lock table: each who waits is queued once, and waits for what there is
pub record IsKept (kept : KeptLocks) : Type 0 where
  pub few : length kept.wants ≤ 65
  pub apart : AllPairs (λ x y. x ≢ y) kept.queue
  pub each : (s : ℕ) → list_any (nat_eq s) kept.queue ≡ is_some (slice_index_or kept.wants s None)
  pub known : (s : ℕ) → IsKnown kept.tables (slice_index_or kept.wants s None)

abbrev pub kept_of : ℕ → List SessionSet → List (Option Wanted) → List ℕ → KeptLocks
kept_of tables held wants waiting = record { tables = tables; held = held; wants = wants; queue = waiting }

-- what is kept after the session's wait began
abbrev pub waiting : KeptLocks → ℕ → Wanted → KeptLocks
waiting k s w = kept_of k.tables k.held (slice_set k.wants s (Some w)) (k.queue ++ s ∷ [])

-- and after it was over
abbrev pub over : KeptLocks → ℕ → KeptLocks
over k s = kept_of k.tables k.held (slice_set k.wants s None) (removed s k.queue)

-- the session is among those that are waited for
abbrev pub names : WaitOn → ℕ → Bool
names (Ends of) s = has of s
names (Snapshots of) s = has of s

-- there are as many sessions and tables as before
pub record SameSize (old new : KeptLocks) : Type 0 where
  pub sessions : length new.wants ≡ length old.wants
  pub tables : new.tables ≡ old.tables

-- the session waits for nothing
abbrev pub IsIdle : KeptLocks → ℕ → Type 0
IsIdle kept s = slice_index_or kept.wants s None ≡ None

-- the others wait for what they did
abbrev pub OthersWait : ℕ → KeptLocks → KeptLocks → Type 0
OthersWait session old new = (s : ℕ) → s ≢ session → slice_index_or new.wants s None ≡ slice_index_or old.wants s None
