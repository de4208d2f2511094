-- What happened to locks on tables (the manual, 13.3.1). The newest event stands first.
--
-- Where a transaction can undo a part of itself, a lock is got at a depth: that of the parts that were open.
-- Some locks are then given up by that depth, a part that goes on as one with the part around it counts
-- its locks at that one's depth, and a session can wait for the end of another session's part alone.
use Rattle.std.specs.Prelude.{ℕ, ◌==◌, ◌&&◌, ◌||◌, not, Bool, false, if◌then◌else◌, List, [], ◌∷◌, ◌++◌, Option, Some, None, filter}
use Rattle.std.specs.List.{list_any}
use Rattle.pg_values.specs.Modes.{same_mode, conflicting, every_mode}
use Rattle.pg_values.specs.Sets.{without}
use Rattle.pg_values.specs.declared.lock_mode.LockMode.{LockMode}
use Rattle.history.specs.declared.wait.WaitOn.{WaitOn}
use Rattle.history.specs.declared.wait.WaitOn.TheVariants.{Ends, Snapshots}
use Rattle.history.specs.declared.wait.Wanted.{Wanted}
use Rattle.history.specs.declared.wait.Wanted.TheVariants.{Lock, Others}

-- a session got a lock; it gave up its locks, as its transaction ended; its snapshot has gone; its wait
-- began; its wait was over, and it holds the lock that it waited for; its wait was withdrawn
pub data LockEvent : Type 0 where
  LockGot : (session table : ℕ) → LockMode → LockEvent
  LocksGivenUp : (session : ℕ) → LockEvent
  SnapshotGone : (session : ℕ) → LockEvent
  WaitBegan : (session : ℕ) → Wanted → LockEvent
  WaitResumed : (session : ℕ) → LockEvent
  WaitWithdrawn : (session : ℕ) → LockEvent

abbrev pub LockEvents : Type 0
LockEvents = List LockEvent

-- what is left of a wait when a session's transaction has ended
abbrev pub after_end : ℕ → Option Wanted → Option Wanted
after_end s (Some (Others (Ends of))) = Some (Others (Ends (without of s)))
after_end s w = w

-- and when its snapshot has gone
abbrev pub after_snapshot : ℕ → Option Wanted → Option Wanted
after_snapshot s (Some (Others (Snapshots of))) = Some (Others (Snapshots (without of s)))
after_snapshot s w = w

-- what the session waits for
abbrev pub wanted : LockEvents → ℕ → Option Wanted
wanted [] x = None
wanted (LockGot s t m ∷ h) x = wanted h x
wanted (LocksGivenUp s ∷ h) x = after_end s (wanted h x)
wanted (SnapshotGone s ∷ h) x = after_snapshot s (wanted h x)
wanted (WaitBegan s w ∷ h) x = if s == x then Some w else wanted h x
wanted (WaitResumed s ∷ h) x = if s == x then None else wanted h x
wanted (WaitWithdrawn s ∷ h) x = if s == x then None else wanted h x

abbrev pub is_lock : ℕ → LockMode → Option Wanted → Bool
is_lock t m (Some (Lock table mode)) = (table.number == t) && same_mode mode m
is_lock t m w = false

-- the session holds the mode on the table
abbrev pub holds : LockEvents → ℕ → ℕ → LockMode → Bool
holds [] x t m = false
holds (LockGot s table mode ∷ h) x t m = ((s == x) && ((table == t) && same_mode mode m)) || holds h x t m
holds (LocksGivenUp s ∷ h) x t m = not (s == x) && holds h x t m
holds (SnapshotGone s ∷ h) x t m = holds h x t m
holds (WaitBegan s w ∷ h) x t m = holds h x t m
holds (WaitResumed s ∷ h) x t m = ((s == x) && is_lock t m (wanted h s)) || holds h x t m
holds (WaitWithdrawn s ∷ h) x t m = holds h x t m

-- the session holds one of the modes on the table
abbrev pub holds_one_of : LockEvents → ℕ → ℕ → List LockMode → Bool
holds_one_of h x t modes = list_any (holds h x t) modes

-- the session holds a mode that conflicts with this one
abbrev pub holds_against : LockEvents → ℕ → ℕ → LockMode → Bool
holds_against h x t m = holds_one_of h x t (conflicting m)

abbrev pub holds_any : LockEvents → ℕ → ℕ → Bool
holds_any h x t = holds_one_of h x t every_mode

-- a list without a session
abbrev pub removed : ℕ → List ℕ → List ℕ
removed s xs = filter (λ x. not (s == x)) xs

-- who waits, the oldest wait first
abbrev pub queue : LockEvents → List ℕ
queue [] = []
queue (LockGot s t m ∷ h) = queue h
queue (LocksGivenUp s ∷ h) = queue h
queue (SnapshotGone s ∷ h) = queue h
queue (WaitBegan s w ∷ h) = queue h ++ s ∷ []
queue (WaitResumed s ∷ h) = removed s (queue h)
queue (WaitWithdrawn s ∷ h) = removed s (queue h)
