-- ALTER TABLE, DETACH PARTITION of a session (the manual, ALTER TABLE; 5.11.2.2 Partition Maintenance; 13.3.1 Table-Level
-- Locks).
use Rattle.std.specs.Prelude.{ℕ, ◌==◌, Bool, false, not, List, [], Option, Some, None, Result, Ok}
use Rattle.pg_values.specs.declared.fault.Fault.{Fault}
use Rattle.pg_values.specs.declared.ids.TableNo.{TableNo}
use Rattle.pg_values.specs.declared.lock_mode.LockMode.TheVariants.{AccessExclusive}
use Rattle.pg_values.specs.Refusals.{unless}
use Rattle.refusals.specs.Refusals.{partition_is_pending, not_a_partition}
use Rattle.history.specs.History.{History}
use Rattle.row_router.specs.Histories.{table_of}
use Rattle.part_catalog.specs.Answers.{child_told, pending_entry}
use Rattle.part_catalog.specs.Found.{made_at}
use Rattle.part_ddl.specs.Below.{default_of}
use Rattle.part_ddl.specs.Dropped.{place_ended}
use Rattle.part_ddl.specs.Placing.{level_at}
use Rattle.statement_steps.specs.Made.{Made, made, answered}
use Rattle.statement_steps.specs.declared.caller.Caller.{Caller}
use Rattle.statement_steps.specs.Asks.{locked, named, held_at}
use Rattle.statement_steps.specs.Steps.{follow}
use Rattle.statement_steps.specs.Owned.{stamp}
use Rattle.ddl_steps.specs.Refused.{next_answer, unless_faults}
use Rattle.ddl_steps.specs.Families.{parent_in}
use Rattle.alter_table.specs.Places.{name_at}

-- ---- the default partition beside it

abbrev pub locked_or_none : List (List ℕ) → (session : ℕ) → Option TableNo → History → Made (Unit {0})
locked_or_none names s None h = made [] tt
locked_or_none names s (Some t) h = locked names s t.number AccessExclusive h

abbrev pub default_locked : List (List ℕ) → (session parent : ℕ) → History → Made (Unit {0})
default_locked names s p h = locked_or_none names s (default_of h s p) h

-- ---- the refusals

abbrev pub is_table : Option TableNo → (table : ℕ) → Bool
is_table None t = false
is_table (Some found) t = found.number == t

-- the parent is partitioned, the table is a partition of it, and is not its pending one
abbrev pub detachable : History → (session parent table : ℕ) → Result (Unit {0}) Fault
detachable h s p t =
    next_answer (level_at h p) (λ level.
    unless_faults (unless (is_table (parent_in h s t) p) (not_a_partition (name_at h t) (name_at h p))) (
    unless_faults (unless (not (is_table (child_told (pending_entry h s p)) t)) (partition_is_pending (name_at h t) (name_at h p))) (Ok tt)))

abbrev pub checked : (session parent table : ℕ) → History → Made (Unit {0})
checked s p t h = answered (detachable h s p t)

-- ---- the entry by which the table is a partition ends

abbrev pub place_left : Caller → (table : ℕ) → History → Made (Unit {0})
place_left caller t h = made (place_ended caller.session (stamp caller h) h (table_of t)) tt

-- ---- the statement

-- where parent and table are locked, the default partition is too; then come the refusals
abbrev pub table_detached : (names : List (List ℕ)) → Caller → (parent table : ℕ) → History → Made (Unit {0})
table_detached names caller p t =
    follow (default_locked names caller.session p) (λ u.
    follow (checked caller.session p t) (λ v.
    place_left caller t))

-- the parent is locked, then the table
abbrev pub locked_and_detached : (names : List (List ℕ)) → Caller → (parent name : List ℕ) → History → Made (Unit {0})
locked_and_detached names caller parent name =
    follow (named names caller.session AccessExclusive parent) (λ p.
    follow (named names caller.session AccessExclusive name) (λ t.
    table_detached names caller p t))

-- ALTER TABLE parent DETACH PARTITION name
abbrev pub detached : (names : List (List ℕ)) → Caller → (parent name : List ℕ) → History → Made (Unit {0})
detached names caller parent name = follow (held_at caller.level caller.session caller.cmd) (λ u. locked_and_detached names caller parent name)
