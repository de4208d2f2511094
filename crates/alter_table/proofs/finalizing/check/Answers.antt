use Rattle.statement_steps.proofs.Parts.{answered_done, answered_refused}
use Rattle.statement_steps.proofs.Steps.{handed_on}
use Rattle.alter_table.specs.Finalized.{finalizable}
use Rattle.alter_table.proofs.Pending.{finalizable_is, pending_is_partition}
use Rattle.alter_table.proofs.finalizing.check.Goals as goal

pub returns-clause-step : goal.returns-clause-step
returns-clause-step c =
    answered_done (λ (u : Unit {0}). u) tt c.args.stores.now c.args.attempt.now.caller (λ h. finalizable h c.args.attempt.now.caller.session c.args.parent.number c.args.table.number) c.requires.may
    (λ h stands. c.in_ok-check_pending.ensures h stands.all.txs stands.all.catalog)

pub returns-clause-partition : goal.returns-clause-partition
returns-clause-partition c =
    pending_is_partition c.legal_keeps_all.ensures c.listed_is_there.ensures c.args.stores.now c.args.attempt.now.caller c.args.parent c.args.table.number c.requires.may
    (λ h txs catalog. finalizable_is h c.args.attempt.now.caller.session c.args.parent.number c.args.table.number (c.in_ok-check_pending.ensures h txs catalog))

pub returns-clause-pending : goal.returns-clause-pending
returns-clause-pending c = λ h txs catalog. finalizable_is h c.args.attempt.now.caller.session c.args.parent.number c.args.table.number (c.in_ok-check_pending.ensures h txs catalog)

pub returns-in_err-check_pending-clause-step : goal.returns-in_err-check_pending-clause-step
returns-in_err-check_pending-clause-step c =
    handed_on c.from_residual.ensures.1 (answered_refused (λ (u : Unit {0}). u) c.in_err-check_pending.field-0.0 c.args.stores.now c.args.attempt.now.caller c.args.attempt.now.caller.cmd (λ h. finalizable h c.args.attempt.now.caller.session c.args.parent.number c.args.table.number) c.requires.may
    (λ h stands. c.in_err-check_pending.ensures h stands.all.txs stands.all.catalog))
