use Rattle.statement_steps.proofs.Parts.{answered_done, answered_refused}
use Rattle.statement_steps.proofs.Steps.{handed_on}
use Rattle.alter_table.specs.Detached.{detachable}
use Rattle.alter_table.proofs.Refusing.{is_partition}
use Rattle.alter_table.proofs.detach_checks.check.Goals as goal

pub returns-clause-step : goal.returns-clause-step
returns-clause-step c =
    answered_done (λ (u : Unit {0}). u) tt c.args.stores.now c.args.attempt.now.caller (λ h. detachable h c.args.attempt.now.caller.session c.args.parent.number c.args.table.number) c.requires.may
    (λ h stands. c.in_ok-check_partition.ensures h stands.all.txs stands.all.catalog)

pub returns-clause-partition : goal.returns-clause-partition
returns-clause-partition c = λ h txs catalog. is_partition h c.args.attempt.now.caller.session c.args.table.number c.args.parent (c.in_ok-check_partition.ensures h txs catalog)

pub returns-in_err-check_partition-clause-step : goal.returns-in_err-check_partition-clause-step
returns-in_err-check_partition-clause-step c =
    handed_on c.from_residual.ensures.1 (answered_refused (λ (u : Unit {0}). u) c.in_err-check_partition.field-0.0 c.args.stores.now c.args.attempt.now.caller c.args.attempt.now.caller.cmd (λ h. detachable h c.args.attempt.now.caller.session c.args.parent.number c.args.table.number) c.requires.may
    (λ h stands. c.in_err-check_partition.ensures h stands.all.txs stands.all.catalog))
