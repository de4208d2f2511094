-- What a statement that runs over the stores keeps, and what its answer tells.
use Rattle.std.specs.Prelude.{◌≡◌, ◌≤◌, ◌≢◌, ℕ, ◌+◌, ◌<◌, true, List, [], ◌∷◌, ◌++◌, Option, Some, None, IfSome, Result, Ok, Err, IsSome, length, slice_index_or}
use Rattle.pg_values.specs.Sets.{has}
use Rattle.pg_values.specs.declared.lock_mode.LockMode.{LockMode}
use Rattle.history.specs.declared.wait.Wanted.{Wanted}
use Rattle.history.specs.declared.wait.Wanted.TheVariants.{Lock, Others}
use Rattle.history.specs.Locks.{queue}
use Rattle.history.specs.History.{History, lock_events}
use Rattle.lock_table.specs.Kept.{held_at}
use Rattle.lock_table.specs.Stands.{IsIdle, OthersWait, SameSize, names}
use Rattle.stores.specs.Stand.{Stands}
use Rattle.stores.specs.Numbers.{IsAt}
use Rattle.stores.specs.declared.stores.Stores.{Stores}
use Rattle.statement_steps.specs.Gathered.{AreLeft}
use Rattle.statement_steps.specs.Waiting.{Since}
use Rattle.statement_steps.specs.Ended.{Ended, Done, Commits}
use Rattle.statement_steps.specs.Made.{Made, Waits, Refused, number_after}
use Rattle.statement_steps.specs.declared.caller.Caller.{Caller}
use Rattle.statement_steps.specs.declared.ending.Ending.{Ending}
use Rattle.statement_steps.specs.declared.ending.Ending.TheVariants as endings
use Rattle.statement_steps.specs.declared.rest.Rest.{Rest}
use Rattle.statement_steps.specs.declared.rest.Rest.TheVariants.{Rows, Detach}
use Rattle.statement_steps.specs.declared.stop.Stop.{Stop}
use Rattle.statement_steps.specs.declared.stop.Stop.TheVariants as stop

-- the stores stand for a history in which the commands of the session's transaction are below that number
abbrev pub AreSound : Stores → (session cmd : ℕ) → Type 0
AreSound stores s n = (h : History) × Stands stores h × IsAt h s n

-- the session has a transaction and does not wait, and there is a place for it and for each table
pub record MayAttempt (stores : Stores) (caller : Caller) : Type 0 where
  pub sound : AreSound stores caller.session caller.cmd
  pub transaction : IsSome (slice_index_or stores.txs.current caller.session None)
  pub idle : IsIdle stores.locks caller.session
  pub known : caller.session < caller.sessions
  pub few : caller.sessions ≤ 65
  pub sessions : length stores.locks.wants ≡ caller.sessions
  pub seats : length stores.txs.current ≡ caller.sessions
  pub tables : stores.locks.tables ≡ 4096

-- what is left to the session's statement
abbrev pub IsLeft : History → (session : ℕ) → Rest → Type 0
IsLeft h s (Rows r) = AreLeft h s r
IsLeft h s (Detach d) = Unit {0}

abbrev pub CanGoOn : History → (session : ℕ) → Option Rest → Type 0
CanGoOn h s rest = IfSome rest (IsLeft h s)

-- at a history for which the stores stand; and its transaction may have another command, under which it goes on where it
-- waits in the middle of its run
pub record MayGoOn (stores : Stores) (caller : Caller) (rest : Option Rest) : Type 0 where
  pub sound : (h : History) × Stands stores h × IsAt h caller.session caller.cmd × CanGoOn h caller.session rest
  pub next : caller.cmd < 4294967294

-- it stands before no row
abbrev pub HasNoRows : Rest → Type 0
HasNoRows (Rows r) = ⊥
HasNoRows (Detach d) = Unit {0}

abbrev pub NoRows : Option Rest → Type 0
NoRows rest = IfSome rest HasNoRows

-- the history went on from the earlier one: the session's next command has that number, those of others keep theirs, and
-- these sessions wait behind those that waited before; to each of the others this is what others did
pub record WentOn (earlier : History) (session cmd : ℕ) (waiting : List ℕ) (stores : Stores) (h : History) : Type 0 where
  pub stands : Stands stores h
  pub at : IsAt h session cmd
  pub others : (s n : ℕ) → s ≢ session → IsAt earlier s n → IsAt h s n
  pub since : (s : ℕ) → s ≢ session → Since s earlier h
  pub queue : queue (lock_events h) ≡ queue (lock_events earlier) ++ waiting

-- want of memory apart, what came of it is what is told; a statement that is done prints, and counts as a command
abbrev pub IsAttempt : Result Ending Stop → Stores → (before after : List ℕ) → Caller → History → Made Ended → Type 0
IsAttempt (Ok endings.Done) new before after caller h m = (text : List ℕ) × (m.told ≡ Ok (Done text)) × (after ≡ before ++ text) × WentOn h caller.session (caller.cmd + 1) [] new (m.events ++ h)
IsAttempt (Ok (endings.Commits d)) new before after caller h m = (m.told ≡ Ok (Commits d)) × (after ≡ before) × WentOn h caller.session (caller.cmd + 1) [] new (m.events ++ h)
IsAttempt (Err (stop.Waits rest)) new before after caller h m = (m.told ≡ Err (Waits rest)) × (after ≡ before) × WentOn h caller.session (number_after rest caller.cmd) (caller.session ∷ []) new (m.events ++ h) × CanGoOn (m.events ++ h) caller.session rest
IsAttempt (Err (stop.Refused f)) new before after caller h m = (m.told ≡ Err (Refused f)) × (after ≡ before) × WentOn h caller.session (caller.cmd + 1) [] new (m.events ++ h)
IsAttempt (Err stop.NoMemory) new before after caller h m = Unit {0}

-- nobody loses a lock
abbrev pub LocksStay : (old new : Stores) → Type 0
LocksStay old new = (s t : ℕ) (m : LockMode) → has (held_at old.locks.held t m) s ≡ true → has (held_at new.locks.held t m) s ≡ true

-- each session keeps its transaction and its locks, the others their waits
pub record GoesOn (old new : Stores) (session : ℕ) : Type 0 where
  pub transactions : new.txs.current ≡ old.txs.current
  pub locks : LocksStay old new
  pub others : OthersWait session old.locks new.locks
  pub size : SameSize old.locks new.locks

-- somebody is waited for, unless it is a lock that is waited for
abbrev pub HasCause : Wanted → Type 0
HasCause (Lock table m) = Unit {0}
HasCause (Others what) = (s : ℕ) × (names what s ≡ true)

-- the session waits for a lock, or for others
abbrev pub IsWaiting : Stores → (session : ℕ) → Type 0
IsWaiting stores s = (w : Wanted) × (slice_index_or stores.locks.wants s None ≡ Some w) × HasCause w

-- it does just where the answer says so
abbrev pub IsHalt : Result Ending Stop → Stores → (session : ℕ) → Type 0
IsHalt (Ok e) stores s = IsIdle stores.locks s
IsHalt (Err (stop.Waits rest)) stores s = IsWaiting stores s
IsHalt (Err (stop.Refused f)) stores s = IsIdle stores.locks s
IsHalt (Err stop.NoMemory) stores s = Unit {0}
