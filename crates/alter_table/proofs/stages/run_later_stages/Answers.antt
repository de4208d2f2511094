use Rattle.std.proofs.Common.{◌≤◌, length, sym, subst}
use Rattle.pg_values.specs.declared.lock_mode.LockMode.TheVariants.{ShareUpdateExclusive, AccessExclusive}
use Rattle.stores.specs.declared.stores.Stores.{Stores}
use Rattle.statement_steps.specs.Asks.{named_still}
use Rattle.statement_steps.specs.Steps.{follow}
use Rattle.statement_steps.proofs.Steps.{goes, handed_on, may_go_on, stops}
use Rattle.alter_table.specs.Concurrent.{judged_still, others_ended, partition_left, third_stage}
use Rattle.alter_table.proofs.Guards.{still_guards, still_named_guards, still_named_owns}
use Rattle.alter_table.proofs.stages.run_later_stages.Goals as goal

pub lock_named_still-requires-clause-may : goal.lock_named_still-requires-clause-may
lock_named_still-requires-clause-may c = may_go_on _ _ _ _ _ _ c.requires.may c.in_ok-wait_for_others.ensures.step

pub lock_named_still-requires-clause-few : goal.lock_named_still-requires-clause-few
lock_named_still-requires-clause-few c = subst (λ (s : Stores). length s.catalog.tables ≤ 4096) (sym c.wait_for_others.ensures.rest) c.requires.few

pub lock_named_still-requires-2-clause-may : goal.lock_named_still-requires-2-clause-may
lock_named_still-requires-2-clause-may c = may_go_on _ _ _ _ _ _ (may_go_on _ _ _ _ _ _ c.requires.may c.in_ok-wait_for_others.ensures.step) c.in_ok-lock_named_still.ensures.step

pub lock_named_still-requires-2-clause-few : goal.lock_named_still-requires-2-clause-few
lock_named_still-requires-2-clause-few c =
    subst (λ (s : Stores). length s.catalog.tables ≤ 4096) (sym c.lock_named_still.ensures.rest) (subst (λ (s : Stores). length s.catalog.tables ≤ 4096) (sym c.wait_for_others.ensures.rest) c.requires.few)

pub check-requires-clause-may : goal.check-requires-clause-may
check-requires-clause-may c = may_go_on _ _ _ _ _ _ (may_go_on _ _ _ _ _ _ (may_go_on _ _ _ _ _ _ c.requires.may c.in_ok-wait_for_others.ensures.step) c.in_ok-lock_named_still.ensures.step) c.in_ok-lock_named_still-2.ensures.step

pub leave_parent-requires-clause-may : goal.leave_parent-requires-clause-may
leave_parent-requires-clause-may c = may_go_on _ _ _ _ _ _ (may_go_on _ _ _ _ _ _ (may_go_on _ _ _ _ _ _ c.requires.may c.in_ok-wait_for_others.ensures.step) c.in_ok-lock_named_still.ensures.step) c.in_ok-lock_named_still-2.ensures.step

pub leave_parent-requires-clause-guarded : goal.leave_parent-requires-clause-guarded
leave_parent-requires-clause-guarded c =
    still_guards c.lock_named_still.new.stores c.lock_named_still-2.new.stores c.args.attempt.now.caller.session c.args.rest.parent.number c.in_ok-lock_named_still-2.ensures.step.keeps.locks
    (still_named_guards c.args.attempt.now.names.now c.wait_for_others.new.stores c.lock_named_still.new.stores c.args.attempt.now.caller c.args.parent.now c.args.rest.parent.number (may_go_on _ _ _ _ _ _ c.requires.may c.in_ok-wait_for_others.ensures.step) c.in_ok-lock_named_still.ensures.step)

pub leave_parent-requires-clause-owned : goal.leave_parent-requires-clause-owned
leave_parent-requires-clause-owned c =
    still_named_owns c.args.attempt.now.names.now c.lock_named_still.new.stores c.lock_named_still-2.new.stores c.args.attempt.now.caller c.args.name.now c.args.rest.table.number (may_go_on _ _ _ _ _ _ (may_go_on _ _ _ _ _ _ c.requires.may c.in_ok-wait_for_others.ensures.step) c.in_ok-lock_named_still.ensures.step) c.in_ok-lock_named_still-2.ensures.step

pub returns-in_err-lock_named_still : goal.returns-in_err-lock_named_still
returns-in_err-lock_named_still c =
    let names = c.args.attempt.now.names.now in
    let caller = c.args.attempt.now.caller in
    let s = c.args.attempt.now.caller.session in
    let d = c.args.rest in
    let end = λ (w : Unit {0}). partition_left caller d.parent.number d.table.number in
    handed_on c.from_residual-in_err-lock_named_still.ensures.1
    (goes (others_ended names s d) (λ u. third_stage names caller d c.args.parent.now c.args.name.now) c.in_ok-wait_for_others.ensures.step
    (stops (named_still names s ShareUpdateExclusive c.args.parent.now d.parent.number) (λ u. follow (named_still names s AccessExclusive c.args.name.now d.table.number) (λ v. follow (judged_still s d) end)) c.in_err-lock_named_still.ensures.step))

pub returns-in_err-lock_named_still-2 : goal.returns-in_err-lock_named_still-2
returns-in_err-lock_named_still-2 c =
    let names = c.args.attempt.now.names.now in
    let caller = c.args.attempt.now.caller in
    let s = c.args.attempt.now.caller.session in
    let d = c.args.rest in
    let end = λ (w : Unit {0}). partition_left caller d.parent.number d.table.number in
    handed_on c.from_residual-in_err-lock_named_still-2.ensures.1
    (goes (others_ended names s d) (λ u. third_stage names caller d c.args.parent.now c.args.name.now) c.in_ok-wait_for_others.ensures.step
    (goes (named_still names s ShareUpdateExclusive c.args.parent.now d.parent.number) (λ u. follow (named_still names s AccessExclusive c.args.name.now d.table.number) (λ v. follow (judged_still s d) end)) c.in_ok-lock_named_still.ensures.step
    (stops (named_still names s AccessExclusive c.args.name.now d.table.number) (λ v. follow (judged_still s d) end) c.in_err-lock_named_still-2.ensures.step)))

pub returns-in_err-check : goal.returns-in_err-check
returns-in_err-check c =
    let names = c.args.attempt.now.names.now in
    let caller = c.args.attempt.now.caller in
    let s = c.args.attempt.now.caller.session in
    let d = c.args.rest in
    let end = λ (w : Unit {0}). partition_left caller d.parent.number d.table.number in
    handed_on c.from_residual-in_err-check.ensures.1
    (goes (others_ended names s d) (λ u. third_stage names caller d c.args.parent.now c.args.name.now) c.in_ok-wait_for_others.ensures.step
    (goes (named_still names s ShareUpdateExclusive c.args.parent.now d.parent.number) (λ u. follow (named_still names s AccessExclusive c.args.name.now d.table.number) (λ v. follow (judged_still s d) end)) c.in_ok-lock_named_still.ensures.step
    (goes (named_still names s AccessExclusive c.args.name.now d.table.number) (λ v. follow (judged_still s d) end) c.in_ok-lock_named_still-2.ensures.step
    (stops (judged_still s d) (end) c.in_err-check.ensures.step))))

pub returns : goal.returns
returns c =
    let names = c.args.attempt.now.names.now in
    let caller = c.args.attempt.now.caller in
    let s = c.args.attempt.now.caller.session in
    let d = c.args.rest in
    let end = λ (w : Unit {0}). partition_left caller d.parent.number d.table.number in
    goes (others_ended names s d) (λ u. third_stage names caller d c.args.parent.now c.args.name.now) c.in_ok-wait_for_others.ensures.step
    (goes (named_still names s ShareUpdateExclusive c.args.parent.now d.parent.number) (λ u. follow (named_still names s AccessExclusive c.args.name.now d.table.number) (λ v. follow (judged_still s d) end)) c.in_ok-lock_named_still.ensures.step
    (goes (named_still names s AccessExclusive c.args.name.now d.table.number) (λ v. follow (judged_still s d) end) c.in_ok-lock_named_still-2.ensures.step
    (goes (judged_still s d) (end) c.in_ok-check.ensures.step
    c.leave_parent.ensures)))
