-- ALTER TABLE, DETACH PARTITION CONCURRENTLY of a session, in its three stages (the manual, ALTER TABLE; 13.3.1
-- Table-Level Locks).
--
-- Stage 1 marks the entry pending, and is committed. Stage 2 waits for the transactions of all who hold a lock on the parent
-- then: they may have read that the table is a partition. In stage 3 the table keeps a CHECK, and the entry ends.
use Rattle.std.specs.Prelude.{ℕ, ◌==◌, ◌&&◌, Bool, false, List, [], ◌∷◌, ◌++◌, Option, Some, None, Result, Ok}
use Rattle.pg_values.specs.declared.fault.Fault.{Fault}
use Rattle.pg_values.specs.Sets.{empty, without}
use Rattle.pg_values.specs.declared.ids.TableNo.{TableNo}
use Rattle.pg_values.specs.declared.lock_mode.LockMode.TheVariants.{ShareUpdateExclusive, AccessExclusive}
use Rattle.pg_values.specs.Refusals.{unless}
use Rattle.refusals.specs.Refusals.{partition_is_pending, not_a_partition, has_default_partition, not_the_pending_partition}
use Rattle.history.specs.declared.catalogue.Entry.{Entry}
use Rattle.history.specs.declared.catalogue.Stamp.{Stamp}
use Rattle.history.specs.declared.transaction.TxId.{TxId}
use Rattle.history.specs.declared.wait.WaitOn.TheVariants.{Ends}
use Rattle.history.specs.Catalogue.{EntryMarked}
use Rattle.history.specs.History.{History, CatalogueChange, lock_events}
use Rattle.history.specs.Locks.{holds_any}
use Rattle.row_router.specs.Histories.{table_of}
use Rattle.part_catalog.specs.Answers.{child_told, entry_between, marker_told, pending_entry}
use Rattle.part_ddl.specs.Below.{default_of}
use Rattle.part_ddl.specs.Dropped.{place_ended}
use Rattle.part_ddl.specs.Placing.{level_at}
use Rattle.ddl_steps.specs.Sessions.{those}
use Rattle.statement_steps.specs.Ended.{giving}
use Rattle.statement_steps.specs.Made.{Made, made, answered}
use Rattle.statement_steps.specs.declared.caller.Caller.{Caller}
use Rattle.statement_steps.specs.declared.ending.Ending.{Ending}
use Rattle.statement_steps.specs.declared.ending.Ending.TheVariants as endings
use Rattle.statement_steps.specs.declared.rest.Rest.{Rest}
use Rattle.statement_steps.specs.declared.rest.Rest.TheVariants.{Rows, Detach}
use Rattle.statement_steps.specs.declared.rest.RestOfDetach.{RestOfDetach}
use Rattle.statement_steps.specs.Asks.{named, named_still, waited}
use Rattle.statement_steps.specs.Steps.{follow, going_on}
use Rattle.statement_steps.specs.Owned.{own, stamp}
use Rattle.ddl_steps.specs.Refused.{next_answer, unless_faults}
use Rattle.ddl_steps.specs.Families.{parent_in}
use Rattle.alter_table.specs.Detached.{is_table}
use Rattle.alter_table.specs.Places.{name_at}
use Rattle.alter_table.specs.Kept.{check_kept, new_check}

-- ---- the refusals of the first stage

abbrev pub default_faults : History → (parent : ℕ) → Option TableNo → List Fault
default_faults h p None = []
default_faults h p (Some d) = has_default_partition (name_at h p) (name_at h d.number) ∷ []

abbrev pub pending_faults : History → (parent : ℕ) → Option TableNo → List Fault
pending_faults h p None = []
pending_faults h p (Some t) = partition_is_pending (name_at h t.number) (name_at h p) ∷ []

-- no partition of the parent is the default or pending
abbrev pub none_beside : History → (session parent : ℕ) → Result (Unit {0}) Fault
none_beside h s p =
    unless_faults (default_faults h p (default_of h s p)) (
    unless_faults (pending_faults h p (child_told (pending_entry h s p))) (Ok tt))

-- and the parent is partitioned, and the table is a partition of it
abbrev pub markable : History → (session parent table : ℕ) → Result (Unit {0}) Fault
markable h s p t =
    next_answer (level_at h p) (λ level.
    unless_faults (unless (is_table (parent_in h s t) p) (not_a_partition (name_at h t) (name_at h p))) (none_beside h s p))

abbrev pub judged : (session parent table : ℕ) → History → Made (Unit {0})
judged s p t h = answered (markable h s p t)

-- ---- stage 1: the entry is marked, and that is committed

abbrev pub marked : Stamp → Option Entry → History
marked s None = []
marked s (Some e) = CatalogueChange (EntryMarked e.id.number s) ∷ []

-- where it goes on: when the transactions of all who hold a lock on the parent have ended
abbrev pub rest_of : History → (session parent table : ℕ) → RestOfDetach
rest_of h s p t = record { parent = table_of p; table = table_of t; by = own h s; behind = those (λ r. holds_any (lock_events h) r p) }

abbrev pub place_marked : Caller → (parent table : ℕ) → History → Made RestOfDetach
place_marked caller p t h = made (marked (stamp caller h) (entry_between h caller.session p t)) (rest_of h caller.session p t)

abbrev pub table_marked : Caller → (parent table : ℕ) → History → Made RestOfDetach
table_marked caller p t = follow (judged caller.session p t) (λ u. place_marked caller p t)

-- parent and table are locked before
abbrev pub first_stage : (names : List (List ℕ)) → Caller → (parent name : List ℕ) → History → Made RestOfDetach
first_stage names caller parent name =
    follow (named names caller.session ShareUpdateExclusive parent) (λ p.
    follow (named names caller.session ShareUpdateExclusive name) (λ t.
    table_marked caller p t))

-- ---- stage 2: the transactions of the others end

abbrev pub others_ended : (names : List (List ℕ)) → (session : ℕ) → RestOfDetach → History → Made (Unit {0})
others_ended names s d = waited names s (Ends (without d.behind s)) None

-- and have ended where it goes on
abbrev pub behind_nobody : RestOfDetach → RestOfDetach
behind_nobody d = record d { behind = empty }

-- ---- stage 3: the entry ends

abbrev pub is_by : Option TxId → TxId → Bool
is_by None tx = false
is_by (Some by) tx = by.number == tx.number

-- the table is the pending partition still, by the statement's own mark
abbrev pub is_marked_still : History → (session : ℕ) → RestOfDetach → Bool
is_marked_still h s d = is_table (child_told (pending_entry h s d.parent.number)) d.table.number && is_by (marker_told h (pending_entry h s d.parent.number)) d.by

abbrev pub endable : History → (session : ℕ) → RestOfDetach → Result (Unit {0}) Fault
endable h s d = unless_faults (unless (is_marked_still h s d) (not_the_pending_partition (name_at h d.table.number) (name_at h d.parent.number))) (Ok tt)

abbrev pub judged_still : (session : ℕ) → RestOfDetach → History → Made (Unit {0})
judged_still s d h = answered (endable h s d)

-- the table keeps its CHECK, and then is a partition no more
abbrev pub partition_left : Caller → (parent table : ℕ) → History → Made (Unit {0})
partition_left caller p t h =
    made (place_ended caller.session (stamp caller h) h (table_of t) ++ check_kept caller t h (new_check h caller.session p t)) tt

-- both tables are locked anew; either may be gone
abbrev pub third_stage : (names : List (List ℕ)) → Caller → RestOfDetach → (parent name : List ℕ) → History → Made (Unit {0})
third_stage names caller d parent name =
    follow (named_still names caller.session ShareUpdateExclusive parent d.parent.number) (λ u.
    follow (named_still names caller.session AccessExclusive name d.table.number) (λ v.
    follow (judged_still caller.session d) (λ w.
    partition_left caller d.parent.number d.table.number)))

abbrev pub later_stages : (names : List (List ℕ)) → Caller → RestOfDetach → (parent name : List ℕ) → History → Made (Unit {0})
later_stages names caller d parent name = follow (others_ended names caller.session d) (λ u. third_stage names caller d parent name)

-- ---- the statement

-- where it goes on, if it has committed its mark
abbrev pub detach_of : Option Rest → Option RestOfDetach
detach_of None = None
detach_of (Some (Rows r)) = None
detach_of (Some (Detach d)) = Some d

abbrev pub by_rest : (names : List (List ℕ)) → Caller → Option RestOfDetach → (parent name : List ℕ) → History → Made Ending
by_rest names caller None parent name h = giving endings.Commits (first_stage names caller parent name h)
by_rest names caller (Some d) parent name h = giving (λ u. endings.Done) (going_on (Some (Detach (behind_nobody d))) (later_stages names caller d parent name h))

-- ALTER TABLE parent DETACH PARTITION name CONCURRENTLY, from its beginning, or from where it stood
abbrev pub detached_concurrently : (names : List (List ℕ)) → Caller → Option Rest → (parent name : List ℕ) → History → Made Ending
detached_concurrently names caller rest parent name = by_rest names caller (detach_of rest) parent name
