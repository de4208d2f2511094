use Rattle.statement_steps.proofs.Parts.{answered_done, answered_refused}
use Rattle.statement_steps.proofs.Steps.{handed_on}
use Rattle.alter_table.specs.Concurrent.{endable}
use Rattle.alter_table.proofs.Pending.{endable_is, pending_is_partition}
use Rattle.alter_table.proofs.stages.check.Goals as goal

pub returns-clause-step : goal.returns-clause-step
returns-clause-step c =
    answered_done (λ (u : Unit {0}). u) tt c.args.stores.now c.args.attempt.now.caller (λ h. endable h c.args.attempt.now.caller.session c.args.rest) c.requires.may
    (λ h stands. c.in_ok-check_mark.ensures h stands.all.txs stands.all.catalog)

pub returns-clause-partition : goal.returns-clause-partition
returns-clause-partition c =
    pending_is_partition c.legal_keeps_all.ensures c.listed_is_there.ensures c.args.stores.now c.args.attempt.now.caller c.args.rest.parent c.args.rest.table.number c.requires.may
    (λ h txs catalog. endable_is h c.args.attempt.now.caller.session c.args.rest (c.in_ok-check_mark.ensures h txs catalog))

pub returns-clause-pending : goal.returns-clause-pending
returns-clause-pending c = λ h txs catalog. endable_is h c.args.attempt.now.caller.session c.args.rest (c.in_ok-check_mark.ensures h txs catalog)

pub returns-in_err-check_mark-clause-step : goal.returns-in_err-check_mark-clause-step
returns-in_err-check_mark-clause-step c =
    handed_on c.from_residual.ensures.1 (answered_refused (λ (u : Unit {0}). u) c.in_err-check_mark.field-0.0 c.args.stores.now c.args.attempt.now.caller c.args.attempt.now.caller.cmd (λ h. endable h c.args.attempt.now.caller.session c.args.rest) c.requires.may
    (λ h stands. c.in_err-check_mark.ensures h stands.all.txs stands.all.catalog))
