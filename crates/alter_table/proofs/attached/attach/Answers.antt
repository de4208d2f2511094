use Rattle.std.proofs.Common.{◌∙◌, ◌≤◌, length, sym, subst}
use Rattle.pg_values.specs.declared.lock_mode.LockMode.TheVariants.{ShareUpdateExclusive, AccessExclusive}
use Rattle.sql_ast.specs.Commands.{bound_tree}
use Rattle.stores.specs.declared.stores.Stores.{Stores}
use Rattle.statement_steps.specs.Asks.{held_at, named}
use Rattle.statement_steps.specs.Attempts.{MayAttempt}
use Rattle.statement_steps.specs.Steps.{follow}
use Rattle.statement_steps.proofs.Steps.{goes, handed_on, may_go_on, out_behind, stops}
use Rattle.ddl_steps.proofs.Locks.{named_locked, still_named}
use Rattle.alter_table.specs.Attached.{attached_beside, family_locked, locked_and_attached, table_attached}
use Rattle.alter_table.proofs.AttachLocks.{named_guarded, still_from, still_guarded}
use Rattle.alter_table.proofs.attached.attach.Goals as goal

pub lock_named-requires-clause-may : goal.lock_named-requires-clause-may
lock_named-requires-clause-may c = may_go_on _ _ _ _ _ _ c.requires.may c.in_ok-hold_if_repeatable.ensures.step

pub lock_named-requires-clause-few : goal.lock_named-requires-clause-few
lock_named-requires-clause-few c = subst (λ (s : Stores). length s.catalog.tables ≤ 4096) (sym c.hold_if_repeatable.ensures.rest) c.requires.few

pub lock_named-requires-2-clause-may : goal.lock_named-requires-2-clause-may
lock_named-requires-2-clause-may c = may_go_on _ _ _ _ _ _ (may_go_on _ _ _ _ _ _ c.requires.may c.in_ok-hold_if_repeatable.ensures.step) c.in_ok-parent.ensures.step

pub lock_named-requires-2-clause-few : goal.lock_named-requires-2-clause-few
lock_named-requires-2-clause-few c =
    subst (λ (s : Stores). length s.catalog.tables ≤ 4096) (sym c.lock_named.ensures.rest) (subst (λ (s : Stores). length s.catalog.tables ≤ 4096) (sym c.hold_if_repeatable.ensures.rest) c.requires.few)

pub tables_from-requires-clause-known : goal.tables_from-requires-clause-known
tables_from-requires-clause-known c = c.in_ok-table.ensures.known.made

pub tables_from-requires-clause-siblings : goal.tables_from-requires-clause-siblings
tables_from-requires-clause-siblings c =
    let may : MayAttempt c.lock_named-2.new.stores c.args.attempt.now.caller = may_go_on _ _ _ _ _ _ (may_go_on _ _ _ _ _ _ (may_go_on _ _ _ _ _ _ c.requires.may c.in_ok-hold_if_repeatable.ensures.step) c.in_ok-parent.ensures.step) c.in_ok-table.ensures.step in
    c.trees_are_together.ensures c.lock_named-2.new.stores may.sound.0 c.args.attempt.now.caller.session may.sound.1

pub lock_family-requires-clause-may : goal.lock_family-requires-clause-may
lock_family-requires-clause-may c = may_go_on _ _ _ _ _ _ (may_go_on _ _ _ _ _ _ (may_go_on _ _ _ _ _ _ c.requires.may c.in_ok-hold_if_repeatable.ensures.step) c.in_ok-parent.ensures.step) c.in_ok-table.ensures.step

pub lock_family-requires-clause-few : goal.lock_family-requires-clause-few
lock_family-requires-clause-few c =
    subst (λ (s : Stores). length s.catalog.tables ≤ 4096) (sym c.lock_named-2.ensures.rest) (subst (λ (s : Stores). length s.catalog.tables ≤ 4096) (sym c.lock_named.ensures.rest) (subst (λ (s : Stores). length s.catalog.tables ≤ 4096) (sym c.hold_if_repeatable.ensures.rest) c.requires.few))

pub lock_family-requires-clause-known : goal.lock_family-requires-clause-known
lock_family-requires-clause-known c = c.in_ok-table.ensures.known

pub lock_family-requires-clause-tables : goal.lock_family-requires-clause-tables
lock_family-requires-clause-tables c = λ h txs catalog. c.deref.ensures.value ∙ c.in_ok-tables.ensures h txs catalog

pub attach_below-requires-clause-may : goal.attach_below-requires-clause-may
attach_below-requires-clause-may c =
    may_go_on _ _ _ _ _ _ (may_go_on _ _ _ _ _ _ (may_go_on _ _ _ _ _ _ (may_go_on _ _ _ _ _ _ c.requires.may c.in_ok-hold_if_repeatable.ensures.step) c.in_ok-parent.ensures.step) c.in_ok-table.ensures.step) c.in_ok-lock_family.ensures.step

pub attach_below-requires-clause-few : goal.attach_below-requires-clause-few
attach_below-requires-clause-few c =
    subst (λ (s : Stores). length s.catalog.tables ≤ 4096) (sym c.lock_family.ensures.rest) (subst (λ (s : Stores). length s.catalog.tables ≤ 4096) (sym c.lock_named-2.ensures.rest) (subst (λ (s : Stores). length s.catalog.tables ≤ 4096) (sym c.lock_named.ensures.rest) (subst (λ (s : Stores). length s.catalog.tables ≤ 4096) (sym c.hold_if_repeatable.ensures.rest) c.requires.few)))

pub attach_below-requires-clause-parent : goal.attach_below-requires-clause-parent
attach_below-requires-clause-parent c =
    still_guarded c.lock_named-2.new.stores c.lock_family.new.stores c.args.attempt.now.caller.session c.lock_family.ensures.rest c.in_ok-parent.parent.number c.in_ok-lock_family.ensures.step.keeps.locks
    (still_guarded c.lock_named.new.stores c.lock_named-2.new.stores c.args.attempt.now.caller.session c.lock_named-2.ensures.rest c.in_ok-parent.parent.number c.in_ok-table.ensures.step.keeps.locks
    (named_guarded c.args.attempt.now.names.now c.hold_if_repeatable.new.stores c.lock_named.new.stores c.args.attempt.now.caller c.args.parent.now c.in_ok-parent.parent (may_go_on _ _ _ _ _ _ c.requires.may c.in_ok-hold_if_repeatable.ensures.step) c.lock_named.ensures.rest c.in_ok-parent.ensures.known c.in_ok-parent.ensures.step))

pub attach_below-requires-clause-table : goal.attach_below-requires-clause-table
attach_below-requires-clause-table c =
    still_named c.lock_named-2.new.stores c.lock_family.new.stores c.args.attempt.now.caller.session c.in_ok-table.table.number c.lock_family.ensures.rest c.in_ok-lock_family.ensures.step.keeps.locks
    (named_locked c.args.attempt.now.names.now c.lock_named.new.stores c.lock_named-2.new.stores c.args.attempt.now.caller c.args.name.now c.in_ok-table.table (may_go_on _ _ _ _ _ _ (may_go_on _ _ _ _ _ _ c.requires.may c.in_ok-hold_if_repeatable.ensures.step) c.in_ok-parent.ensures.step) c.lock_named-2.ensures.rest c.in_ok-table.ensures.known c.in_ok-table.ensures.step)

pub attach_below-requires-clause-family : goal.attach_below-requires-clause-family
attach_below-requires-clause-family c = c.in_ok-lock_family.ensures.locked

pub attach_below-requires-clause-tables : goal.attach_below-requires-clause-tables
attach_below-requires-clause-tables c = still_from c.lock_named-2.new.stores c.lock_family.new.stores c.args.attempt.now.caller.session c.lock_family.ensures.rest c.in_ok-table.table.number c.deref-2.result.now (λ h txs catalog. c.deref-2.ensures.value ∙ c.in_ok-tables.ensures h txs catalog)

pub returns-in_err-parent : goal.returns-in_err-parent
returns-in_err-parent c =
    let names = c.args.attempt.now.names.now in
    let caller = c.args.attempt.now.caller in
    let s = c.args.attempt.now.caller.session in
    let b = bound_tree c.args.bound.now in
    handed_on c.from_residual-in_err-parent.ensures.1
    (goes (held_at caller.level s caller.cmd) (λ u. locked_and_attached names caller c.args.parent.now c.args.name.now b) c.in_ok-hold_if_repeatable.ensures.step
    (stops (named names s ShareUpdateExclusive c.args.parent.now) (λ x. follow (named names s AccessExclusive c.args.name.now) (λ y. table_attached names caller x y b)) c.in_err-parent.ensures.step))

pub returns-in_err-table : goal.returns-in_err-table
returns-in_err-table c =
    let names = c.args.attempt.now.names.now in
    let caller = c.args.attempt.now.caller in
    let s = c.args.attempt.now.caller.session in
    let b = bound_tree c.args.bound.now in
    let p = c.in_ok-parent.parent.number in
    handed_on c.from_residual-in_err-table.ensures.1
    (goes (held_at caller.level s caller.cmd) (λ u. locked_and_attached names caller c.args.parent.now c.args.name.now b) c.in_ok-hold_if_repeatable.ensures.step
    (goes (named names s ShareUpdateExclusive c.args.parent.now) (λ x. follow (named names s AccessExclusive c.args.name.now) (λ y. table_attached names caller x y b)) c.in_ok-parent.ensures.step
    (stops (named names s AccessExclusive c.args.name.now) (λ y. table_attached names caller p y b) c.in_err-table.ensures.step)))

pub returns-in_err-lock_family : goal.returns-in_err-lock_family
returns-in_err-lock_family c =
    let names = c.args.attempt.now.names.now in
    let caller = c.args.attempt.now.caller in
    let s = c.args.attempt.now.caller.session in
    let b = bound_tree c.args.bound.now in
    let p = c.in_ok-parent.parent.number in
    let t = c.in_ok-table.table.number in
    handed_on c.from_residual-in_err-lock_family.ensures.1
    (goes (held_at caller.level s caller.cmd) (λ u. locked_and_attached names caller c.args.parent.now c.args.name.now b) c.in_ok-hold_if_repeatable.ensures.step
    (goes (named names s ShareUpdateExclusive c.args.parent.now) (λ x. follow (named names s AccessExclusive c.args.name.now) (λ y. table_attached names caller x y b)) c.in_ok-parent.ensures.step
    (goes (named names s AccessExclusive c.args.name.now) (λ y. table_attached names caller p y b) c.in_ok-table.ensures.step
    (stops (family_locked names s t) (λ u. attached_beside names caller p t b) c.in_err-lock_family.ensures.step))))

pub returns-in_err-tables : goal.returns-in_err-tables
returns-in_err-tables c =
    let names = c.args.attempt.now.names.now in
    let caller = c.args.attempt.now.caller in
    let s = c.args.attempt.now.caller.session in
    let b = bound_tree c.args.bound.now in
    goes (held_at caller.level s caller.cmd) (λ u. locked_and_attached names caller c.args.parent.now c.args.name.now b) c.in_ok-hold_if_repeatable.ensures.step
    (goes (named names s ShareUpdateExclusive c.args.parent.now) (λ x. follow (named names s AccessExclusive c.args.name.now) (λ y. table_attached names caller x y b)) c.in_ok-parent.ensures.step
    (out_behind c.from_residual-in_err-tables.ensures.1 c.in_ok-table.ensures.step))

pub returns : goal.returns
returns c =
    let names = c.args.attempt.now.names.now in
    let caller = c.args.attempt.now.caller in
    let s = c.args.attempt.now.caller.session in
    let b = bound_tree c.args.bound.now in
    let p = c.in_ok-parent.parent.number in
    let t = c.in_ok-table.table.number in
    goes (held_at caller.level s caller.cmd) (λ u. locked_and_attached names caller c.args.parent.now c.args.name.now b) c.in_ok-hold_if_repeatable.ensures.step
    (goes (named names s ShareUpdateExclusive c.args.parent.now) (λ x. follow (named names s AccessExclusive c.args.name.now) (λ y. table_attached names caller x y b)) c.in_ok-parent.ensures.step
    (goes (named names s AccessExclusive c.args.name.now) (λ y. table_attached names caller p y b) c.in_ok-table.ensures.step
    (goes (family_locked names s t) (λ u. attached_beside names caller p t b) c.in_ok-lock_family.ensures.step
    c.attach_below.ensures)))
