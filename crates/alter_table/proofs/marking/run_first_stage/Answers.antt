use Rattle.pg_values.specs.declared.lock_mode.LockMode.TheVariants.{ShareUpdateExclusive}
use Rattle.statement_steps.specs.Asks.{named}
use Rattle.statement_steps.specs.Steps.{follow}
use Rattle.statement_steps.proofs.Steps.{goes, handed_on, may_go_on, stops}
use Rattle.alter_table.specs.Concurrent.{judged, place_marked, table_marked}
use Rattle.alter_table.proofs.Guards.{named_guards, still_guards}
use Rattle.alter_table.proofs.marking.run_first_stage.Goals as goal

pub lock_named-requires-2-clause-may : goal.lock_named-requires-2-clause-may
lock_named-requires-2-clause-may c = may_go_on _ _ _ _ _ _ c.requires.may c.in_ok-parent.ensures.step

pub check-requires-clause-may : goal.check-requires-clause-may
check-requires-clause-may c = may_go_on _ _ _ _ _ _ (may_go_on _ _ _ _ _ _ c.requires.may c.in_ok-parent.ensures.step) c.in_ok-table.ensures.step

pub mark-requires-clause-may : goal.mark-requires-clause-may
mark-requires-clause-may c = may_go_on _ _ _ _ _ _ (may_go_on _ _ _ _ _ _ c.requires.may c.in_ok-parent.ensures.step) c.in_ok-table.ensures.step

pub mark-requires-clause-guarded : goal.mark-requires-clause-guarded
mark-requires-clause-guarded c =
    still_guards c.lock_named.new.stores c.lock_named-2.new.stores c.args.attempt.now.caller.session c.in_ok-parent.parent.number c.in_ok-table.ensures.step.keeps.locks
    (named_guards c.args.attempt.now.names.now c.args.stores.now c.lock_named.new.stores c.args.attempt.now.caller c.args.parent.now c.in_ok-parent.parent c.requires.may c.in_ok-parent.ensures.step)

pub returns-in_err-parent : goal.returns-in_err-parent
returns-in_err-parent c =
    let names = c.args.attempt.now.names.now in
    let caller = c.args.attempt.now.caller in
    let s = c.args.attempt.now.caller.session in
    handed_on c.from_residual.ensures.1
    (stops (named names s ShareUpdateExclusive c.args.parent.now) (λ x. follow (named names s ShareUpdateExclusive c.args.name.now) (λ y. table_marked caller x y)) c.in_err-parent.ensures.step)

pub returns-in_err-table : goal.returns-in_err-table
returns-in_err-table c =
    let names = c.args.attempt.now.names.now in
    let caller = c.args.attempt.now.caller in
    let s = c.args.attempt.now.caller.session in
    let p = c.in_ok-parent.parent.number in
    handed_on c.from_residual-in_err-table.ensures.1
    (goes (named names s ShareUpdateExclusive c.args.parent.now) (λ x. follow (named names s ShareUpdateExclusive c.args.name.now) (λ y. table_marked caller x y)) c.in_ok-parent.ensures.step
    (stops (named names s ShareUpdateExclusive c.args.name.now) (λ y. table_marked caller p y) c.in_err-table.ensures.step))

pub returns-in_err-check : goal.returns-in_err-check
returns-in_err-check c =
    let names = c.args.attempt.now.names.now in
    let caller = c.args.attempt.now.caller in
    let s = c.args.attempt.now.caller.session in
    let p = c.in_ok-parent.parent.number in
    let t = c.in_ok-table.table.number in
    handed_on c.from_residual-in_err-check.ensures.1
    (goes (named names s ShareUpdateExclusive c.args.parent.now) (λ x. follow (named names s ShareUpdateExclusive c.args.name.now) (λ y. table_marked caller x y)) c.in_ok-parent.ensures.step
    (goes (named names s ShareUpdateExclusive c.args.name.now) (λ y. table_marked caller p y) c.in_ok-table.ensures.step
    (stops (judged s p t) (λ u. place_marked caller p t) c.in_err-check.ensures.step)))

pub returns : goal.returns
returns c =
    let names = c.args.attempt.now.names.now in
    let caller = c.args.attempt.now.caller in
    let s = c.args.attempt.now.caller.session in
    let p = c.in_ok-parent.parent.number in
    let t = c.in_ok-table.table.number in
    goes (named names s ShareUpdateExclusive c.args.parent.now) (λ x. follow (named names s ShareUpdateExclusive c.args.name.now) (λ y. table_marked caller x y)) c.in_ok-parent.ensures.step
    (goes (named names s ShareUpdateExclusive c.args.name.now) (λ y. table_marked caller p y) c.in_ok-table.ensures.step
    (goes (judged s p t) (λ u. place_marked caller p t) c.in_ok-check.ensures.step
    c.mark.ensures))
