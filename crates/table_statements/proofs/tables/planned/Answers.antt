use Rattle.table_statements.specs.Seen.{seen_plan}
use Rattle.table_statements.specs.Tables as tables
use Rattle.table_statements.proofs.Chains.{plan_few}
use Rattle.statement_steps.proofs.Parts.{answered_done}
use Rattle.statement_steps.proofs.Steps.{handed_on}
use Rattle.ddl_steps.proofs.Firsts.{answered_refused}
use Rattle.table_statements.proofs.tables.planned.Goals as goal

pub returns-clause-step : goal.returns-clause-step
returns-clause-step c =
    answered_done seen_plan c.in_ok-plan.plan c.args.stores.now c.args.attempt.now.caller (λ h. tables.table_plan h c.args.definitions.now c.args.by.now) c.requires (λ h stands. c.in_ok-plan.ensures.answer h stands.all.catalog)

pub returns-clause-few : goal.returns-clause-few
returns-clause-few c = λ h catalog. plan_few h c.args.definitions.now c.args.by.now (seen_plan c.in_ok-plan.plan) (c.in_ok-plan.ensures.answer h catalog)

pub returns-in_err-plan-clause-step : goal.returns-in_err-plan-clause-step
returns-in_err-plan-clause-step c =
    handed_on c.from_residual.ensures.1 (answered_refused seen_plan c.in_err-plan.field-0.0 c.args.stores.now c.args.attempt.now.caller c.args.attempt.now.caller.cmd (λ h. tables.table_plan h c.args.definitions.now c.args.by.now) c.requires (λ h stands. c.in_err-plan.ensures.answer h stands.all.catalog))
