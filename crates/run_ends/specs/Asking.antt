-- What statements do to locks and waits (the manual, 13.3.1 Table-Level Locks).
use Rattle.std.specs.Prelude.{◌≡◌, ◌≢◌, ◌<◌, ◌≤◌, ℕ, true, List, ◌++◌, Option, Some, None, IfSome, Result, Ok, Err}
use Rattle.pg_values.specs.Sets.{has}
use Rattle.pg_values.specs.declared.lock_mode.LockMode.{LockMode}
use Rattle.pg_values.specs.declared.session_set.SessionSet.{SessionSet}
use Rattle.history.specs.declared.wait.Wanted.{Wanted}
use Rattle.history.specs.declared.wait.Wanted.TheVariants.{Lock, Others}
use Rattle.history.specs.Catalogue.{CatalogueEvents}
use Rattle.history.specs.Locks.{wanted, holds}
use Rattle.history.specs.LocksSound.{AreLocksSound}
use Rattle.history.specs.History.{History, lock_events, catalogue_events}
use Rattle.lock_table.specs.Stands.{names}
use Rattle.sessions.specs.declared.settings.Settings.{Settings}
use Rattle.statement_steps.specs.Attempts.{HasCause}
use Rattle.statement_steps.specs.Made.{Made, Halt, Waits, Refused}
use Rattle.statement_steps.specs.declared.caller.Caller.{Caller}
use Rattle.statement_steps.specs.declared.rest.Rest.{Rest}
use Rattle.statement_steps.specs.declared.rest.Rest.TheVariants.{Rows, Detach}
use Rattle.sql_ast.specs.Statements.{StatementTree}
use Rattle.prepared_statements.specs.Prepared.{Prepared}
use Rattle.statement_runs.specs.Attempted.{attempted}
use Rattle.statement_runs.specs.Database.{rest_told}
use Rattle.statement_runs.specs.declared.options.Options.{Options}

-- a wait for a lock on one of so many tables, or for others that are sessions
abbrev pub IsBounded : (tables : ℕ) → Wanted → Type 0
IsBounded n (Lock t m) = t.number < n
IsBounded n (Others what) = (y : ℕ) → names what y ≡ true → y < 128

-- the session waits: for a lock on one of the tables that were there before, or for others of whom one is named
pub record IsWaiting (tables : CatalogueEvents → ℕ) (session : ℕ) (earlier later : History) : Type 0 where
  pub what : Wanted
  pub waits : wanted (lock_events later) session ≡ Some what
  pub bounded : IsBounded (tables (catalogue_events earlier)) what
  pub caused : HasCause what
  pub no_more : tables (catalogue_events later) ≤ tables (catalogue_events earlier)

-- it waits just where that is told
abbrev pub WaitsAsTold : {T : Type 0} → (tables : CatalogueEvents → ℕ) → (session : ℕ) → (earlier later : History) → Result T Halt → Type 0
WaitsAsTold tables s earlier later (Ok x) = wanted (lock_events later) s ≡ None
WaitsAsTold tables s earlier later (Err (Waits rest)) = IsWaiting tables s earlier later
WaitsAsTold tables s earlier later (Err (Refused f)) = wanted (lock_events later) s ≡ None

-- a set of sessions
abbrev pub HasSessions : SessionSet → Type 0
HasSessions set = (y : ℕ) → has set y ≡ true → y < 128

-- where a statement stands, others whose ends it has still to wait for are sessions
abbrev pub IsKnownRest : Rest → Type 0
IsKnownRest (Rows r) = Unit {0}
IsKnownRest (Detach d) = HasSessions d.behind

abbrev pub IsKnown : Option Rest → Type 0
IsKnown rest = IfSome rest IsKnownRest

-- a session that waits for nothing may ask, where the locks are sound
pub record MayAsk (session : ℕ) (h : History) : Type 0 where
  pub known : session < 128
  pub sound : AreLocksSound (lock_events h)
  pub idle : wanted (lock_events h) session ≡ None

-- a statement of that session, or a part of one: nobody has lost a lock by it, and the others wait as they did
pub record Asks {T : Type 0} (tables : CatalogueEvents → ℕ) (session : ℕ) (h : History) (m : Made T) : Type 0 where
  pub sound : AreLocksSound (lock_events (m.events ++ h))
  pub stay : (x t : ℕ) (k : LockMode) → holds (lock_events h) x t k ≡ true → holds (lock_events (m.events ++ h)) x t k ≡ true
  pub others : (x : ℕ) → x ≢ session → wanted (lock_events (m.events ++ h)) x ≡ wanted (lock_events h) x
  pub told : WaitsAsTold tables session h (m.events ++ h) m.told

-- so it is of each statement, from its beginning and from where it stood, whatever its session has prepared
pub record AllAsk (tables : CatalogueEvents → ℕ) : Type 0 where
  pub each : (o : Options) (c : Caller) (rest : Option Rest) (h : History) (g : Settings) (ps : List Prepared) (t : StatementTree) → MayAsk c.session h → IsKnown rest → Asks tables c.session h (attempted o c rest g ps t h)
  pub rests : (o : Options) (c : Caller) (rest : Option Rest) (h : History) (g : Settings) (ps : List Prepared) (t : StatementTree) → MayAsk c.session h → IsKnown rest → IsKnown (rest_told (attempted o c rest g ps t h).told)
