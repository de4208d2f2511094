-- CREATE TABLE, PARTITION OF, of a session (the manual, CREATE TABLE; 13.3.1 Table-Level Locks).
use Rattle.std.specs.Prelude.{ℕ, List, Option, Result, Ok}
use Rattle.pg_values.specs.declared.fault.Fault.{Fault}
use Rattle.pg_values.specs.declared.lock_mode.LockMode.TheVariants.{AccessExclusive}
use Rattle.bound_forms.specs.declared.level.Level.{Level}
use Rattle.bound_forms.specs.declared.partition_bound.Bound.{Bound as MeantBound}
use Rattle.history.specs.History.{History}
use Rattle.sql_ast.specs.Commands.{Bound}
use Rattle.sql_ast.specs.declared.table_definition.Partitioning.{Partitioning}
use Rattle.table_binder.specs.Bounds.{bound_for}
use Rattle.part_catalog.specs.Found.{made_at}
use Rattle.part_ddl.specs.Below.{default_of}
use Rattle.part_ddl.specs.Partitions.{partition_events}
use Rattle.part_ddl.specs.Placing.{level_at, place_faults}
use Rattle.part_ddl.specs.Tables.{count_faults}
use Rattle.ddl_steps.specs.Places.{default_scan}
use Rattle.ddl_steps.specs.Waited.{scanned}
use Rattle.statement_steps.specs.Made.{Made, made, answered}
use Rattle.statement_steps.specs.declared.caller.Caller.{Caller}
use Rattle.statement_steps.specs.Asks.{named, held_at}
use Rattle.statement_steps.specs.Steps.{follow}
use Rattle.statement_steps.specs.Owned.{own}
use Rattle.table_statements.specs.Claims.{name_claimed}
use Rattle.ddl_steps.specs.Refused.{next_answer, unless_faults}
use Rattle.ddl_steps.specs.Locks.{default_locked}
use Rattle.table_statements.specs.Tables.{level_by}

-- ---- the default partition beside it

-- its rows are judged beside a new partition of that name and bound
abbrev pub default_scanned : List (List ℕ) → (session table : ℕ) → MeantBound → (name : List ℕ) → History → Made (Unit {0})
default_scanned names s t b name = scanned names s (λ h. default_scan h s t b name (default_of h s t))

-- ---- the partition

-- its bound, and its own level where it is partitioned
pub record Place : Type 0 where
  pub bound : MeantBound
  pub level : Option Level

abbrev pub place_with : MeantBound → Option Level → Result Place Fault
place_with bound level = Ok (record { bound = bound; level = level })

-- the bound has a place below the parent
abbrev pub placed_bound : History → (session parent : ℕ) → Level → Bound → Result MeantBound Fault
placed_bound h s p level b = next_answer (bound_for level b) (λ bound. unless_faults (place_faults h s p bound 1) (Ok bound))

-- the first refusal: the parent, the count of tables, the bound, its own key
abbrev pub partition_place : History → (session parent : ℕ) → Bound → Option Partitioning → Result Place Fault
partition_place h s p b by =
    next_answer (level_at h p) (λ level.
    unless_faults (count_faults h) (
    next_answer (placed_bound h s p level b) (λ bound.
    next_answer (level_by (made_at h p).columns by) (place_with bound))))

abbrev pub place_found : (session parent : ℕ) → Bound → Option Partitioning → History → Made Place
place_found s p b by h = answered (partition_place h s p b by)

abbrev pub partition_made : Caller → (name : List ℕ) → (parent : ℕ) → Place → History → Made (Unit {0})
partition_made caller name p place h = made (partition_events h name p place.bound place.level (own h caller.session) caller.cmd) tt

-- the default partition is scanned before it is made
abbrev pub scanned_and_made : (names : List (List ℕ)) → Caller → (name : List ℕ) → (parent : ℕ) → Place → History → Made (Unit {0})
scanned_and_made names caller name p place = follow (default_scanned names caller.session p place.bound name) (λ u. partition_made caller name p place)

abbrev pub placed_and_made : (names : List (List ℕ)) → Caller → (name : List ℕ) → (parent : ℕ) → Bound → Option Partitioning → History → Made (Unit {0})
placed_and_made names caller name p b by = follow (place_found caller.session p b by) (λ place. scanned_and_made names caller name p place)

-- that the parent is partitioned, and the name, come before its place
abbrev pub level_there : Level → Result (Unit {0}) Fault
level_there level = Ok tt

abbrev pub parent_tested : (parent : ℕ) → History → Made (Unit {0})
parent_tested p h = answered (next_answer (level_at h p) level_there)

abbrev pub claimed_and_placed : (names : List (List ℕ)) → Caller → (name : List ℕ) → (parent : ℕ) → Bound → Option Partitioning → History → Made (Unit {0})
claimed_and_placed names caller name p b by = follow (name_claimed names caller.session name) (λ u. placed_and_made names caller name p b by)

abbrev pub claimed_and_made : (names : List (List ℕ)) → Caller → (name : List ℕ) → (parent : ℕ) → Bound → Option Partitioning → History → Made (Unit {0})
claimed_and_made names caller name p b by = follow (parent_tested p) (λ u. claimed_and_placed names caller name p b by)

-- the default partition of the parent is locked
abbrev pub made_beside : (names : List (List ℕ)) → Caller → (name : List ℕ) → (parent : ℕ) → Bound → Option Partitioning → History → Made (Unit {0})
made_beside names caller name p b by = follow (default_locked names caller.session p) (λ u. claimed_and_made names caller name p b by)

-- the parent is locked, then its default partition
abbrev pub made_below : (names : List (List ℕ)) → Caller → (name parent : List ℕ) → Bound → Option Partitioning → History → Made (Unit {0})
made_below names caller name parent b by =
    follow (named names caller.session AccessExclusive parent) (λ p. made_beside names caller name p b by)

-- CREATE TABLE name PARTITION OF parent bound [ PARTITION BY .. ]
abbrev pub partitioned : (names : List (List ℕ)) → Caller → (name parent : List ℕ) → Bound → Option Partitioning → History → Made (Unit {0})
partitioned names caller name parent b by = follow (held_at caller.level caller.session caller.cmd) (λ u. made_below names caller name parent b by)
