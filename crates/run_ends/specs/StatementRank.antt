-- What can still happen before a statement is done, as a number, and when it is the rank of a run's database.
use Rattle.std.specs.Prelude.{◌≡◌, ◌<◌, ◌≤◌, ℕ, ◌+◌, Bool, false, List, Option, Some, None, IfSome, length, slice_index_or}
use Rattle.std.specs.List.{sum_by}
use Rattle.pg_values.specs.Modes.{every_mode}
use Rattle.history.specs.declared.wait.Wanted.{Wanted}
use Rattle.history.specs.Catalogue.{CatalogueEvents}
use Rattle.history.specs.Locks.{LockEvents, wanted, holds}
use Rattle.history.specs.LocksSound.{AreLocksSound}
use Rattle.history.specs.History.{lock_events, catalogue_events}
use Rattle.statement_steps.specs.Attempts.{HasCause}
use Rattle.sql_ast.specs.Statements.{StatementTree}
use Rattle.statement_runs.specs.Database.{Database, rest_of}
use Rattle.statement_runs.specs.Roles as roles
use Rattle.statement_runs.specs.Weight.{of_mark, of_flag, sum_below, cut_of}
use Rattle.run_ends.specs.Asking.{IsBounded, IsKnown}

-- the locks that n sessions could still get on so many tables
abbrev pub unheld : (n tables : ℕ) → LockEvents → ℕ
unheld n tables l = sum_below tables (λ t. sum_by (λ m. sum_below n (λ s. of_flag (holds l s t m))) every_mode)

-- these, whose waits could still be cancelled, who could go on since something was given up, and who since a statement of
-- another session has cancelled their waits
abbrev pub slack : (n tables : ℕ) → (moved : List Bool) → Database → ℕ
slack n tables moved v = unheld n tables (lock_events v.history) + (sum_by of_flag v.cancelled + sum_by of_mark moved) + cut_of n v.cut

-- a wait that stands: it was not cancelled, and has a cause until something is given up
pub record Stands (n tables : ℕ) (cancelled moved : List Bool) (session : ℕ) (w : Wanted) : Type 0 where
  pub known : session < n
  pub standing : slice_index_or cancelled session false ≡ false
  pub bounded : IsBounded tables w
  pub caused : slice_index_or moved session false ≡ false → HasCause w

-- of n sessions, where that one has the turn; `moved` tells since whose last step something was given up
pub record IsKept (tables : CatalogueEvents → ℕ) (n bound : ℕ) (moved : List Bool) (v : Database) (turn : Option ℕ) : Type 0 where
  pub few : n ≤ 128
  pub sessions : v.sessions ≡ n
  pub cancelled : length v.cancelled ≡ n
  pub rests : length v.rests ≡ n
  pub marks : length moved ≡ n
  pub known : (s : ℕ) → IsKnown (rest_of v s)
  pub sound : AreLocksSound (lock_events v.history)
  pub waits : (s : ℕ) (w : Wanted) → wanted (lock_events v.history) s ≡ Some w → Stands n bound v.cancelled moved s w
  pub room : tables (catalogue_events v.history) ≤ bound
  pub goes_on : IfSome turn (λ s. (s < n) × (wanted (lock_events v.history) s ≡ None))

pub record IsRanked (tables : CatalogueEvents → ℕ) (n : ℕ) (v : Database) (turn : Option ℕ) (opened : List Bool) (k : ℕ) : Type 0 where
  pub bound : ℕ
  pub moved : List Bool
  pub kept : IsKept tables n bound moved v turn
  pub rank : slack n bound moved v ≡ k

-- the session's statement has committed what it did first
abbrev pub has_committed : Database → ℕ → StatementTree → Bool
has_committed v s t = roles.has_committed (rest_of v s) t
