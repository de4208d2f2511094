-- ALTER TABLE, DETACH PARTITION FINALIZE of a session (the manual, ALTER TABLE; 13.2; 13.3.1 Table-Level Locks).
use Rattle.std.specs.Prelude.{ℕ, ◌==◌, ◌&&◌, Bool, false, not, List, Option, Some, None, Result, Ok}
use Rattle.pg_values.specs.declared.fault.Fault.{Fault}
use Rattle.pg_values.specs.declared.lock_mode.LockMode.TheVariants.{ShareUpdateExclusive, AccessExclusive}
use Rattle.pg_values.specs.Refusals.{unless}
use Rattle.refusals.specs.Refusals.{not_the_pending_partition}
use Rattle.history.specs.declared.transaction.TxId.{TxId}
use Rattle.history.specs.declared.wait.WaitOn.TheVariants.{Snapshots}
use Rattle.history.specs.Snapshots.{TakenSnapshot, held_by, sees}
use Rattle.history.specs.Transactions.{TxEvents}
use Rattle.history.specs.History.{History, tx_events, snapshot_events}
use Rattle.part_catalog.specs.Answers.{child_told, marker_told, pending_entry}
use Rattle.part_ddl.specs.Placing.{level_at}
use Rattle.ddl_steps.specs.Sessions.{those}
use Rattle.statement_steps.specs.Made.{Made, answered}
use Rattle.statement_steps.specs.declared.caller.Caller.{Caller}
use Rattle.statement_steps.specs.Asks.{named, held_at, waited}
use Rattle.statement_steps.specs.Steps.{follow}
use Rattle.ddl_steps.specs.Refused.{next_answer, unless_faults}
use Rattle.alter_table.specs.Detached.{is_table}
use Rattle.alter_table.specs.Places.{name_at}
use Rattle.alter_table.specs.Concurrent.{partition_left}

-- ---- the refusals

-- the parent is partitioned, and the table is its pending partition
abbrev pub finalizable : History → (session parent table : ℕ) → Result (Unit {0}) Fault
finalizable h s p t =
    next_answer (level_at h p) (λ level.
    unless_faults (unless (is_table (child_told (pending_entry h s p)) t) (not_the_pending_partition (name_at h t) (name_at h p))) (Ok tt))

abbrev pub judged : (session parent table : ℕ) → History → Made (Unit {0})
judged s p t h = answered (finalizable h s p t)

-- ---- snapshots that do not see the mark

-- the open snapshot does not see what the transaction did
abbrev pub is_blind : TxEvents → TxId → Option TakenSnapshot → Bool
is_blind txs by None = false
is_blind txs by (Some snap) = not (sees txs snap by.number 0)

-- that of another session does not see it
abbrev pub is_unseeing : History → (session : ℕ) → TxId → (other : ℕ) → Bool
is_unseeing h s by r = not (r == s) && is_blind (tx_events h) by (held_by (snapshot_events h) r)

abbrev pub unseeing : History → (session : ℕ) → Option TxId → (other : ℕ) → Bool
unseeing h s None r = false
unseeing h s (Some by) r = is_unseeing h s by r

-- the statement waits until none is left, and then begins anew
abbrev pub mark_seen : (names : List (List ℕ)) → (session parent : ℕ) → History → Made (Unit {0})
mark_seen names s p h = waited names s (Snapshots (those (unseeing h s (marker_told h (pending_entry h s p))))) None h

-- ---- the statement

abbrev pub table_finalized : (names : List (List ℕ)) → Caller → (parent table : ℕ) → History → Made (Unit {0})
table_finalized names caller p t =
    follow (judged caller.session p t) (λ u.
    follow (mark_seen names caller.session p) (λ v.
    partition_left caller p t))

-- the parent is locked, then the table
abbrev pub locked_and_finalized : (names : List (List ℕ)) → Caller → (parent name : List ℕ) → History → Made (Unit {0})
locked_and_finalized names caller parent name =
    follow (named names caller.session ShareUpdateExclusive parent) (λ p.
    follow (named names caller.session AccessExclusive name) (λ t.
    table_finalized names caller p t))

-- ALTER TABLE parent DETACH PARTITION name FINALIZE
abbrev pub finalized : (names : List (List ℕ)) → Caller → (parent name : List ℕ) → History → Made (Unit {0})
finalized names caller parent name = follow (held_at caller.level caller.session caller.cmd) (λ u. locked_and_finalized names caller parent name)
