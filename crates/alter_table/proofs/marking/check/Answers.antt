use Rattle.statement_steps.proofs.Parts.{answered_done, answered_refused}
use Rattle.statement_steps.proofs.Steps.{handed_on}
use Rattle.alter_table.specs.Concurrent.{markable}
use Rattle.alter_table.proofs.marking.check.Goals as goal

pub check_partition-requires-clause-siblings : goal.check_partition-requires-clause-siblings
check_partition-requires-clause-siblings c = c.trees_are_together.ensures c.args.stores.now c.requires.may.sound.0 c.args.attempt.now.caller.session c.requires.may.sound.1

pub returns-clause-step : goal.returns-clause-step
returns-clause-step c =
    answered_done (λ (u : Unit {0}). u) tt c.args.stores.now c.args.attempt.now.caller (λ h. markable h c.args.attempt.now.caller.session c.args.parent.number c.args.table.number) c.requires.may
    (λ h stands. c.in_ok-check_partition.ensures h stands.all.txs stands.all.catalog)

pub returns-clause-markable : goal.returns-clause-markable
returns-clause-markable c = λ h txs catalog. c.in_ok-check_partition.ensures h txs catalog

pub returns-in_err-check_partition-clause-step : goal.returns-in_err-check_partition-clause-step
returns-in_err-check_partition-clause-step c =
    handed_on c.from_residual.ensures.1 (answered_refused (λ (u : Unit {0}). u) c.in_err-check_partition.field-0.0 c.args.stores.now c.args.attempt.now.caller c.args.attempt.now.caller.cmd (λ h. markable h c.args.attempt.now.caller.session c.args.parent.number c.args.table.number) c.requires.may
    (λ h stands. c.in_err-check_partition.ensures h stands.all.txs stands.all.catalog))
