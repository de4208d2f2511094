-- What is kept of a run's sessions beside the stores, and when it tells of a history.
use Rattle.std.specs.Prelude.{◌≡◌, ℕ, ◌≤◌, ◌<◌, ◌&&◌, ◌||◌, Bool, true, false, List, ◌++◌, Option, Some, None, All, IfSome, is_some, length, slice_index_or}
use Rattle.history.specs.declared.wait.WaitOn.{WaitOn}
use Rattle.history.specs.declared.wait.Wanted.{Wanted}
use Rattle.history.specs.declared.wait.Wanted.TheVariants.{Lock, Others}
use Rattle.history.specs.Locks.{wanted, queue}
use Rattle.history.specs.Waits.{ready}
use Rattle.schedule.specs.Lists.{first}
use Rattle.schedule.specs.declared.tally.Tally.{Tally}
use Rattle.history.specs.History.{Event, History, lock_events}
use Rattle.lock_table.specs.Stands.{TableStands as LocksStand, names}
use Rattle.stores.specs.Stand.{Stands}
use Rattle.stores.specs.Numbers.{IsAt}
use Rattle.stores.specs.declared.stores.Stores.{Stores}
use Rattle.statement_steps.specs.Attempts.{CanGoOn}
use Rattle.prepared_statements.specs.Prepared.{Prepared}
use Rattle.statement_runs.specs.Database.{Database, is_ready}
use Rattle.statement_runs.specs.declared.options.Options.{Options}
use Rattle.statement_steps.specs.declared.rest.Rest.{Rest}

-- who has a transaction, how many commands of it were tried, whose wait was cancelled, and where a statement stands that
-- waits in the middle of its run; since whose last step something was given up; who waits, the oldest wait first, and which
-- of them can go on; and whether all that was done to the stores is told
pub record KeptSeats : Type 0 where
  pub stores : Stores
  pub opened : List Bool
  pub commands : List ℕ
  pub cancelled : List Bool
  pub rests : List (Option Rest)
  pub moved : List Bool
  pub queue : List ℕ
  pub ready : Option ℕ
  pub whole : Bool

-- there is a place for each session and each table
pub record AreSeated (kept : KeptSeats) : Type 0 where
  pub few : length kept.opened ≤ 65
  pub commands : length kept.commands ≡ length kept.opened
  pub cancelled : length kept.cancelled ≡ length kept.opened
  pub rests : length kept.rests ≡ length kept.opened
  pub moved : length kept.moved ≡ length kept.opened
  pub transactions : length kept.stores.txs.current ≡ length kept.opened
  pub waits : length kept.stores.locks.wants ≡ length kept.opened
  pub tables : kept.stores.locks.tables ≡ 4096
  pub queue : All (λ s. s < length kept.opened) kept.queue
  pub ready : IfSome kept.ready (λ s. s < length kept.opened)

-- who waits for others has a cause until something is given up, no wait that stands was cancelled, and what is left to
-- statements is there, and holds still
pub record AreWaits (kept : KeptSeats) (h : History) : Type 0 where
  pub caused : (s : ℕ) (w : WaitOn) → slice_index_or kept.stores.locks.wants s None ≡ Some (Others w) → slice_index_or kept.moved s false ≡ false → (y : ℕ) × (names w y ≡ true)
  pub going_on : (s : ℕ) → CanGoOn h s (slice_index_or kept.rests s None)
  pub standing : (s : ℕ) → is_some (wanted (lock_events h) s) ≡ true → slice_index_or kept.cancelled s false ≡ false

-- what is kept tells of the history
pub record TellOf (kept : KeptSeats) (h : History) : Type 0 where
  pub stands : Stands kept.stores h
  pub opened : (s : ℕ) → slice_index_or kept.opened s false ≡ is_some (slice_index_or kept.stores.txs.current s None)
  pub numbered : (s : ℕ) → IsAt h s (slice_index_or kept.commands s 0)
  pub queue : kept.queue ≡ queue (lock_events h)
  pub ready : (g : History) → LocksStand kept.stores.locks g → kept.ready ≡ ready (lock_events g)
  pub waits : AreWaits kept h

-- there is such a history, unless memory ran out inside of a statement
pub record AreKept (kept : KeptSeats) : Type 0 where
  pub seated : AreSeated kept
  pub sound : kept.whole ≡ true → (h : History) × TellOf kept h

-- what told of a history tells of it with those events before it
pub record Adds (old new : KeptSeats) (events : History → List Event) : Type 0 where
  pub whole : new.whole ≡ old.whole
  pub tells : old.whole ≡ true → (h : History) → TellOf old h → TellOf new (events h ++ h)

-- it stands for a database, with what the sessions have prepared, with those whose waits statements of others have cancelled,
-- and with what statements have given and read
pub record StandsFor (o : Options) (kept : KeptSeats) (lists : List (List Prepared)) (ended : List ℕ) (tally : Tally) (v : Database) : Type 0 where
  pub whole : kept.whole ≡ true
  pub options : o ≡ v.options
  pub sessions : length kept.opened ≡ v.sessions
  pub tells : TellOf kept v.history
  pub commands : kept.commands ≡ v.commands
  pub cancelled : kept.cancelled ≡ v.cancelled
  pub rests : kept.rests ≡ v.rests
  pub prepared : lists ≡ v.prepared
  pub cut : ended ≡ v.cut
  pub given : tally ≡ v.tally

-- whoever is waited for is a session, a number below 128
abbrev pub AreSessions : Wanted → Type 0
AreSessions (Lock table m) = Unit {0}
AreSessions (Others what) = (s : ℕ) → names what s ≡ true → s < 128

-- the session waits
abbrev pub waits_in : KeptSeats → ℕ → Bool
waits_in kept s = kept.whole && is_some (slice_index_or kept.stores.locks.wants s None)

-- its wait is over
abbrev pub due_in : KeptSeats → ℕ → Bool
due_in kept s = kept.whole && is_ready kept.ready s

-- the first whose statement is to be refused since a statement of another session has cancelled its wait
abbrev pub interrupted_in : KeptSeats → (cut : List ℕ) → Option ℕ
interrupted_in kept cut = first (λ s. slice_index_or kept.cancelled s false) cut

-- it goes on now
abbrev pub may_go_on : KeptSeats → (cut : List ℕ) → ℕ → Bool
may_go_on kept cut s = is_ready (interrupted_in kept cut) s || due_in kept s
