use Rattle.std.proofs.Common.{◌<◌, ◌≤◌, length, sym, subst}
use Rattle.pg_values.specs.declared.lock_mode.LockMode.TheVariants.{ShareUpdateExclusive, AccessExclusive}
use Rattle.stores.specs.declared.stores.Stores.{Stores}
use Rattle.statement_steps.specs.Asks.{held_at, named}
use Rattle.statement_steps.specs.Steps.{follow}
use Rattle.statement_steps.proofs.Steps.{goes, handed_on, may_go_on, stops}
use Rattle.alter_table.specs.Concurrent.{partition_left}
use Rattle.alter_table.specs.Finalized.{judged, locked_and_finalized, mark_seen, table_finalized}
use Rattle.alter_table.proofs.Guards.{named_guards, named_owns, still_guards, still_owns}
use Rattle.alter_table.proofs.Pending.{still_partition, still_pending}
use Rattle.alter_table.proofs.finalizing.finalize.Goals as goal

pub lock_named-requires-clause-may : goal.lock_named-requires-clause-may
lock_named-requires-clause-may c = may_go_on _ _ _ _ _ _ c.requires.may c.in_ok-hold_if_repeatable.ensures.step

pub lock_named-requires-clause-few : goal.lock_named-requires-clause-few
lock_named-requires-clause-few c = subst (λ (s : Stores). length s.catalog.tables ≤ 4096) (sym c.hold_if_repeatable.ensures.rest) c.requires.few

pub lock_named-requires-2-clause-may : goal.lock_named-requires-2-clause-may
lock_named-requires-2-clause-may c = may_go_on _ _ _ _ _ _ (may_go_on _ _ _ _ _ _ c.requires.may c.in_ok-hold_if_repeatable.ensures.step) c.in_ok-parent.ensures.step

pub lock_named-requires-2-clause-few : goal.lock_named-requires-2-clause-few
lock_named-requires-2-clause-few c =
    subst (λ (s : Stores). length s.catalog.tables ≤ 4096) (sym c.lock_named.ensures.rest) (subst (λ (s : Stores). length s.catalog.tables ≤ 4096) (sym c.hold_if_repeatable.ensures.rest) c.requires.few)

pub check-requires-clause-may : goal.check-requires-clause-may
check-requires-clause-may c = may_go_on _ _ _ _ _ _ (may_go_on _ _ _ _ _ _ (may_go_on _ _ _ _ _ _ c.requires.may c.in_ok-hold_if_repeatable.ensures.step) c.in_ok-parent.ensures.step) c.in_ok-table.ensures.step

pub wait_for_snapshots-requires : goal.wait_for_snapshots-requires
wait_for_snapshots-requires c = record { may = may_go_on _ _ _ _ _ _ (may_go_on _ _ _ _ _ _ (may_go_on _ _ _ _ _ _ c.requires.may c.in_ok-hold_if_repeatable.ensures.step) c.in_ok-parent.ensures.step) c.in_ok-table.ensures.step }

pub leave_parent-requires-clause-may : goal.leave_parent-requires-clause-may
leave_parent-requires-clause-may c =
    may_go_on _ _ _ _ _ _ (may_go_on _ _ _ _ _ _ (may_go_on _ _ _ _ _ _ (may_go_on _ _ _ _ _ _ c.requires.may c.in_ok-hold_if_repeatable.ensures.step) c.in_ok-parent.ensures.step) c.in_ok-table.ensures.step) c.in_ok-wait_for_snapshots.ensures.step

pub leave_parent-requires-clause-guarded : goal.leave_parent-requires-clause-guarded
leave_parent-requires-clause-guarded c =
    still_guards c.lock_named-2.new.stores c.wait_for_snapshots.new.stores c.args.attempt.now.caller.session c.in_ok-parent.parent.number c.in_ok-wait_for_snapshots.ensures.step.keeps.locks
    (still_guards c.lock_named.new.stores c.lock_named-2.new.stores c.args.attempt.now.caller.session c.in_ok-parent.parent.number c.in_ok-table.ensures.step.keeps.locks
    (named_guards c.args.attempt.now.names.now c.hold_if_repeatable.new.stores c.lock_named.new.stores c.args.attempt.now.caller c.args.parent.now c.in_ok-parent.parent (may_go_on _ _ _ _ _ _ c.requires.may c.in_ok-hold_if_repeatable.ensures.step) c.in_ok-parent.ensures.step))

pub leave_parent-requires-clause-owned : goal.leave_parent-requires-clause-owned
leave_parent-requires-clause-owned c =
    still_owns c.lock_named-2.new.stores c.wait_for_snapshots.new.stores c.args.attempt.now.caller.session c.in_ok-table.table.number c.in_ok-wait_for_snapshots.ensures.step.keeps.locks
    (named_owns c.args.attempt.now.names.now c.lock_named.new.stores c.lock_named-2.new.stores c.args.attempt.now.caller c.args.name.now c.in_ok-table.table (may_go_on _ _ _ _ _ _ (may_go_on _ _ _ _ _ _ c.requires.may c.in_ok-hold_if_repeatable.ensures.step) c.in_ok-parent.ensures.step) c.in_ok-table.ensures.step)

pub leave_parent-requires-clause-parent : goal.leave_parent-requires-clause-parent
leave_parent-requires-clause-parent c = subst (λ (s : Stores). c.in_ok-parent.parent.number < length s.catalog.tables) (sym c.wait_for_snapshots.ensures.rest) (subst (λ (s : Stores). c.in_ok-parent.parent.number < length s.catalog.tables) (sym c.lock_named-2.ensures.rest) c.in_ok-parent.ensures.known.made)

pub leave_parent-requires-clause-table : goal.leave_parent-requires-clause-table
leave_parent-requires-clause-table c = subst (λ (s : Stores). c.in_ok-table.table.number < length s.catalog.tables) (sym c.wait_for_snapshots.ensures.rest) c.in_ok-table.ensures.known.made

pub leave_parent-requires-clause-pending : goal.leave_parent-requires-clause-pending
leave_parent-requires-clause-pending c = still_pending c.lock_named-2.new.stores c.wait_for_snapshots.new.stores c.args.attempt.now.caller.session c.in_ok-parent.parent c.in_ok-table.table.number c.wait_for_snapshots.ensures.rest c.in_ok-check.ensures.pending

pub leave_parent-requires-clause-partition : goal.leave_parent-requires-clause-partition
leave_parent-requires-clause-partition c = still_partition c.lock_named-2.new.stores c.wait_for_snapshots.new.stores c.args.attempt.now.caller.session c.in_ok-parent.parent c.in_ok-table.table.number c.wait_for_snapshots.ensures.rest c.in_ok-check.ensures.partition

pub returns-in_err-parent : goal.returns-in_err-parent
returns-in_err-parent c =
    let names = c.args.attempt.now.names.now in
    let caller = c.args.attempt.now.caller in
    let s = c.args.attempt.now.caller.session in
    handed_on c.from_residual-in_err-parent.ensures.1
    (goes (held_at caller.level s caller.cmd) (λ u. locked_and_finalized names caller c.args.parent.now c.args.name.now) c.in_ok-hold_if_repeatable.ensures.step
    (stops (named names s ShareUpdateExclusive c.args.parent.now) (λ x. follow (named names s AccessExclusive c.args.name.now) (λ y. table_finalized names caller x y)) c.in_err-parent.ensures.step))

pub returns-in_err-table : goal.returns-in_err-table
returns-in_err-table c =
    let names = c.args.attempt.now.names.now in
    let caller = c.args.attempt.now.caller in
    let s = c.args.attempt.now.caller.session in
    let p = c.in_ok-parent.parent.number in
    handed_on c.from_residual-in_err-table.ensures.1
    (goes (held_at caller.level s caller.cmd) (λ u. locked_and_finalized names caller c.args.parent.now c.args.name.now) c.in_ok-hold_if_repeatable.ensures.step
    (goes (named names s ShareUpdateExclusive c.args.parent.now) (λ x. follow (named names s AccessExclusive c.args.name.now) (λ y. table_finalized names caller x y)) c.in_ok-parent.ensures.step
    (stops (named names s AccessExclusive c.args.name.now) (λ y. table_finalized names caller p y) c.in_err-table.ensures.step)))

pub returns-in_err-check : goal.returns-in_err-check
returns-in_err-check c =
    let names = c.args.attempt.now.names.now in
    let caller = c.args.attempt.now.caller in
    let s = c.args.attempt.now.caller.session in
    let p = c.in_ok-parent.parent.number in
    let t = c.in_ok-table.table.number in
    handed_on c.from_residual-in_err-check.ensures.1
    (goes (held_at caller.level s caller.cmd) (λ u. locked_and_finalized names caller c.args.parent.now c.args.name.now) c.in_ok-hold_if_repeatable.ensures.step
    (goes (named names s ShareUpdateExclusive c.args.parent.now) (λ x. follow (named names s AccessExclusive c.args.name.now) (λ y. table_finalized names caller x y)) c.in_ok-parent.ensures.step
    (goes (named names s AccessExclusive c.args.name.now) (λ y. table_finalized names caller p y) c.in_ok-table.ensures.step
    (stops (judged s p t) (λ u. follow (mark_seen names s p) (λ v. partition_left caller p t)) c.in_err-check.ensures.step))))

pub returns-in_err-wait_for_snapshots : goal.returns-in_err-wait_for_snapshots
returns-in_err-wait_for_snapshots c =
    let names = c.args.attempt.now.names.now in
    let caller = c.args.attempt.now.caller in
    let s = c.args.attempt.now.caller.session in
    let p = c.in_ok-parent.parent.number in
    let t = c.in_ok-table.table.number in
    handed_on c.from_residual-in_err-wait_for_snapshots.ensures.1
    (goes (held_at caller.level s caller.cmd) (λ u. locked_and_finalized names caller c.args.parent.now c.args.name.now) c.in_ok-hold_if_repeatable.ensures.step
    (goes (named names s ShareUpdateExclusive c.args.parent.now) (λ x. follow (named names s AccessExclusive c.args.name.now) (λ y. table_finalized names caller x y)) c.in_ok-parent.ensures.step
    (goes (named names s AccessExclusive c.args.name.now) (λ y. table_finalized names caller p y) c.in_ok-table.ensures.step
    (goes (judged s p t) (λ u. follow (mark_seen names s p) (λ v. partition_left caller p t)) c.in_ok-check.ensures.step
    (stops (mark_seen names s p) (λ v. partition_left caller p t) c.in_err-wait_for_snapshots.ensures.step)))))

pub returns : goal.returns
returns c =
    let names = c.args.attempt.now.names.now in
    let caller = c.args.attempt.now.caller in
    let s = c.args.attempt.now.caller.session in
    let p = c.in_ok-parent.parent.number in
    let t = c.in_ok-table.table.number in
    goes (held_at caller.level s caller.cmd) (λ u. locked_and_finalized names caller c.args.parent.now c.args.name.now) c.in_ok-hold_if_repeatable.ensures.step
    (goes (named names s ShareUpdateExclusive c.args.parent.now) (λ x. follow (named names s AccessExclusive c.args.name.now) (λ y. table_finalized names caller x y)) c.in_ok-parent.ensures.step
    (goes (named names s AccessExclusive c.args.name.now) (λ y. table_finalized names caller p y) c.in_ok-table.ensures.step
    (goes (judged s p t) (λ u. follow (mark_seen names s p) (λ v. partition_left caller p t)) c.in_ok-check.ensures.step
    (goes (mark_seen names s p) (λ v. partition_left caller p t) c.in_ok-wait_for_snapshots.ensures.step
    c.leave_parent.ensures))))
