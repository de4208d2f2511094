use Rattle.std.proofs.Common.{◌<◌, ◌≤◌, length, sym, subst}
use Rattle.pg_values.specs.declared.lock_mode.LockMode.TheVariants.{AccessExclusive}
use Rattle.stores.specs.declared.stores.Stores.{Stores}
use Rattle.statement_steps.specs.Asks.{held_at, named}
use Rattle.statement_steps.specs.Steps.{follow}
use Rattle.statement_steps.proofs.Steps.{goes, handed_on, may_go_on, stops}
use Rattle.ddl_steps.proofs.Locks.{named_locked, still_named}
use Rattle.alter_table.specs.Detached.{checked, default_locked, locked_and_detached, place_left, table_detached}
use Rattle.alter_table.proofs.detached.detach.Goals as goal

pub lock_named-requires-clause-may : goal.lock_named-requires-clause-may
lock_named-requires-clause-may c = may_go_on _ _ _ _ _ _ c.requires.may c.in_ok-hold_if_repeatable.ensures.step

pub lock_named-requires-clause-few : goal.lock_named-requires-clause-few
lock_named-requires-clause-few c = subst (λ (s : Stores). length s.catalog.tables ≤ 4096) (sym c.hold_if_repeatable.ensures.rest) c.requires.few

pub lock_named-requires-2-clause-may : goal.lock_named-requires-2-clause-may
lock_named-requires-2-clause-may c = may_go_on _ _ _ _ _ _ (may_go_on _ _ _ _ _ _ c.requires.may c.in_ok-hold_if_repeatable.ensures.step) c.in_ok-parent.ensures.step

pub lock_named-requires-2-clause-few : goal.lock_named-requires-2-clause-few
lock_named-requires-2-clause-few c =
    subst (λ (s : Stores). length s.catalog.tables ≤ 4096) (sym c.lock_named.ensures.rest) (subst (λ (s : Stores). length s.catalog.tables ≤ 4096) (sym c.hold_if_repeatable.ensures.rest) c.requires.few)

pub lock_default-requires-clause-may : goal.lock_default-requires-clause-may
lock_default-requires-clause-may c = may_go_on _ _ _ _ _ _ (may_go_on _ _ _ _ _ _ (may_go_on _ _ _ _ _ _ c.requires.may c.in_ok-hold_if_repeatable.ensures.step) c.in_ok-parent.ensures.step) c.in_ok-table.ensures.step

pub lock_default-requires-clause-few : goal.lock_default-requires-clause-few
lock_default-requires-clause-few c =
    subst (λ (s : Stores). length s.catalog.tables ≤ 4096) (sym c.lock_named-2.ensures.rest) (subst (λ (s : Stores). length s.catalog.tables ≤ 4096) (sym c.lock_named.ensures.rest) (subst (λ (s : Stores). length s.catalog.tables ≤ 4096) (sym c.hold_if_repeatable.ensures.rest) c.requires.few))

pub lock_default-requires-clause-known : goal.lock_default-requires-clause-known
lock_default-requires-clause-known c =
    (still_named c.lock_named.new.stores c.lock_named-2.new.stores c.args.attempt.now.caller.session c.in_ok-parent.parent.number c.lock_named-2.ensures.rest c.in_ok-table.ensures.step.keeps.locks
    (named_locked c.args.attempt.now.names.now c.hold_if_repeatable.new.stores c.lock_named.new.stores c.args.attempt.now.caller c.args.parent.now c.in_ok-parent.parent (may_go_on _ _ _ _ _ _ c.requires.may c.in_ok-hold_if_repeatable.ensures.step) c.lock_named.ensures.rest c.in_ok-parent.ensures.known c.in_ok-parent.ensures.step)).made

pub check-requires-clause-may : goal.check-requires-clause-may
check-requires-clause-may c =
    may_go_on _ _ _ _ _ _ (may_go_on _ _ _ _ _ _ (may_go_on _ _ _ _ _ _ (may_go_on _ _ _ _ _ _ c.requires.may c.in_ok-hold_if_repeatable.ensures.step) c.in_ok-parent.ensures.step) c.in_ok-table.ensures.step) c.in_ok-lock_default.ensures.step

pub check-requires-clause-parent : goal.check-requires-clause-parent
check-requires-clause-parent c =
    (still_named c.lock_named-2.new.stores c.lock_default.new.stores c.args.attempt.now.caller.session c.in_ok-parent.parent.number c.lock_default.ensures.rest c.in_ok-lock_default.ensures.step.keeps.locks
    (still_named c.lock_named.new.stores c.lock_named-2.new.stores c.args.attempt.now.caller.session c.in_ok-parent.parent.number c.lock_named-2.ensures.rest c.in_ok-table.ensures.step.keeps.locks
    (named_locked c.args.attempt.now.names.now c.hold_if_repeatable.new.stores c.lock_named.new.stores c.args.attempt.now.caller c.args.parent.now c.in_ok-parent.parent (may_go_on _ _ _ _ _ _ c.requires.may c.in_ok-hold_if_repeatable.ensures.step) c.lock_named.ensures.rest c.in_ok-parent.ensures.known c.in_ok-parent.ensures.step))).made

pub check-requires-clause-table : goal.check-requires-clause-table
check-requires-clause-table c = subst (λ (s : Stores). c.in_ok-table.table.number < length s.catalog.tables) (sym c.lock_default.ensures.rest) c.in_ok-table.ensures.known.made

pub leave_place-requires-clause-may : goal.leave_place-requires-clause-may
leave_place-requires-clause-may c =
    may_go_on _ _ _ _ _ _ (may_go_on _ _ _ _ _ _ (may_go_on _ _ _ _ _ _ (may_go_on _ _ _ _ _ _ c.requires.may c.in_ok-hold_if_repeatable.ensures.step) c.in_ok-parent.ensures.step) c.in_ok-table.ensures.step) c.in_ok-lock_default.ensures.step

pub leave_place-requires-clause-locked : goal.leave_place-requires-clause-locked
leave_place-requires-clause-locked c =
    (still_named c.lock_named-2.new.stores c.lock_default.new.stores c.args.attempt.now.caller.session c.in_ok-parent.parent.number c.lock_default.ensures.rest c.in_ok-lock_default.ensures.step.keeps.locks
    (still_named c.lock_named.new.stores c.lock_named-2.new.stores c.args.attempt.now.caller.session c.in_ok-parent.parent.number c.lock_named-2.ensures.rest c.in_ok-table.ensures.step.keeps.locks
    (named_locked c.args.attempt.now.names.now c.hold_if_repeatable.new.stores c.lock_named.new.stores c.args.attempt.now.caller c.args.parent.now c.in_ok-parent.parent (may_go_on _ _ _ _ _ _ c.requires.may c.in_ok-hold_if_repeatable.ensures.step) c.lock_named.ensures.rest c.in_ok-parent.ensures.known c.in_ok-parent.ensures.step))).locked

pub leave_place-requires-clause-partition : goal.leave_place-requires-clause-partition
leave_place-requires-clause-partition c = c.in_ok-check.ensures.partition

pub returns-in_err-parent : goal.returns-in_err-parent
returns-in_err-parent c =
    let names = c.args.attempt.now.names.now in
    let caller = c.args.attempt.now.caller in
    let s = c.args.attempt.now.caller.session in
    handed_on c.from_residual-in_err-parent.ensures.1
    (goes (held_at caller.level s caller.cmd) (λ u. locked_and_detached names caller c.args.parent.now c.args.name.now) c.in_ok-hold_if_repeatable.ensures.step
    (stops (named names s AccessExclusive c.args.parent.now) (λ x. follow (named names s AccessExclusive c.args.name.now) (λ y. table_detached names caller x y)) c.in_err-parent.ensures.step))

pub returns-in_err-table : goal.returns-in_err-table
returns-in_err-table c =
    let names = c.args.attempt.now.names.now in
    let caller = c.args.attempt.now.caller in
    let s = c.args.attempt.now.caller.session in
    let p = c.in_ok-parent.parent.number in
    handed_on c.from_residual-in_err-table.ensures.1
    (goes (held_at caller.level s caller.cmd) (λ u. locked_and_detached names caller c.args.parent.now c.args.name.now) c.in_ok-hold_if_repeatable.ensures.step
    (goes (named names s AccessExclusive c.args.parent.now) (λ x. follow (named names s AccessExclusive c.args.name.now) (λ y. table_detached names caller x y)) c.in_ok-parent.ensures.step
    (stops (named names s AccessExclusive c.args.name.now) (λ y. table_detached names caller p y) c.in_err-table.ensures.step)))

pub returns-in_err-lock_default : goal.returns-in_err-lock_default
returns-in_err-lock_default c =
    let names = c.args.attempt.now.names.now in
    let caller = c.args.attempt.now.caller in
    let s = c.args.attempt.now.caller.session in
    let p = c.in_ok-parent.parent.number in
    let t = c.in_ok-table.table.number in
    handed_on c.from_residual-in_err-lock_default.ensures.1
    (goes (held_at caller.level s caller.cmd) (λ u. locked_and_detached names caller c.args.parent.now c.args.name.now) c.in_ok-hold_if_repeatable.ensures.step
    (goes (named names s AccessExclusive c.args.parent.now) (λ x. follow (named names s AccessExclusive c.args.name.now) (λ y. table_detached names caller x y)) c.in_ok-parent.ensures.step
    (goes (named names s AccessExclusive c.args.name.now) (λ y. table_detached names caller p y) c.in_ok-table.ensures.step
    (stops (default_locked names s p) (λ u. follow (checked s p t) (λ v. place_left caller t)) c.in_err-lock_default.ensures.step))))

pub returns-in_err-check : goal.returns-in_err-check
returns-in_err-check c =
    let names = c.args.attempt.now.names.now in
    let caller = c.args.attempt.now.caller in
    let s = c.args.attempt.now.caller.session in
    let p = c.in_ok-parent.parent.number in
    let t = c.in_ok-table.table.number in
    handed_on c.from_residual-in_err-check.ensures.1
    (goes (held_at caller.level s caller.cmd) (λ u. locked_and_detached names caller c.args.parent.now c.args.name.now) c.in_ok-hold_if_repeatable.ensures.step
    (goes (named names s AccessExclusive c.args.parent.now) (λ x. follow (named names s AccessExclusive c.args.name.now) (λ y. table_detached names caller x y)) c.in_ok-parent.ensures.step
    (goes (named names s AccessExclusive c.args.name.now) (λ y. table_detached names caller p y) c.in_ok-table.ensures.step
    (goes (default_locked names s p) (λ u. follow (checked s p t) (λ v. place_left caller t)) c.in_ok-lock_default.ensures.step
    (stops (checked s p t) (λ v. place_left caller t) c.in_err-check.ensures.step)))))

pub returns : goal.returns
returns c =
    let names = c.args.attempt.now.names.now in
    let caller = c.args.attempt.now.caller in
    let s = c.args.attempt.now.caller.session in
    let p = c.in_ok-parent.parent.number in
    let t = c.in_ok-table.table.number in
    goes (held_at caller.level s caller.cmd) (λ u. locked_and_detached names caller c.args.parent.now c.args.name.now) c.in_ok-hold_if_repeatable.ensures.step
    (goes (named names s AccessExclusive c.args.parent.now) (λ x. follow (named names s AccessExclusive c.args.name.now) (λ y. table_detached names caller x y)) c.in_ok-parent.ensures.step
    (goes (named names s AccessExclusive c.args.name.now) (λ y. table_detached names caller p y) c.in_ok-table.ensures.step
    (goes (default_locked names s p) (λ u. follow (checked s p t) (λ v. place_left caller t)) c.in_ok-lock_default.ensures.step
    (goes (checked s p t) (λ v. place_left caller t) c.in_ok-check.ensures.step
    c.leave_place.ensures))))
