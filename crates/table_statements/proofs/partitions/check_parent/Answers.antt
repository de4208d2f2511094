use Rattle.std.proofs.Common.{ap}
use Rattle.part_ddl.specs.Placing.{level_at}
use Rattle.statement_steps.proofs.Parts.{answered_done}
use Rattle.statement_steps.proofs.Steps.{handed_on}
use Rattle.ddl_steps.specs.Refused.{next_answer}
use Rattle.table_statements.specs.Partitions.{level_there}
use Rattle.ddl_steps.proofs.Firsts.{stops_at, answered_refused, fault_answer}
use Rattle.table_statements.proofs.partitions.check_parent.Goals as goal

pub returns : goal.returns
returns c =
    answered_done (λ (u : Unit {0}). u) tt c.args.stores.now c.args.attempt.now.caller (λ h. next_answer (level_at h c.args.parent.number) level_there) c.requires.may
    (λ h stands. ap (λ a. next_answer a level_there) (c.in_ok-parent_level.ensures h stands.all.catalog))

pub returns-in_err-parent_level : goal.returns-in_err-parent_level
returns-in_err-parent_level c =
    handed_on c.from_residual.ensures.1 (answered_refused (λ (u : Unit {0}). u) c.in_err-parent_level.field-0.0 c.args.stores.now c.args.attempt.now.caller c.args.attempt.now.caller.cmd (λ h. next_answer (level_at h c.args.parent.number) level_there) c.requires.may
    (λ h stands. stops_at (λ (u : Unit {0}). u) c.in_err-parent_level.field-0.0 (level_at h c.args.parent.number) level_there (fault_answer c.in_err-parent_level.field-0.0 (level_at h c.args.parent.number) (c.in_err-parent_level.ensures h stands.all.catalog))))
