use Rattle.sql_ast.specs.Queries.{select_tree}
use Rattle.cond_logic.specs.Asked.{select_meant}
use Rattle.statement_steps.proofs.Steps.{handed_on}
use Rattle.select_statement.specs.Selected.{asked_by}
use Rattle.select_statement.proofs.Steps.{outcome_done, outcome_refused}
use Rattle.select_statement.proofs.parts.bind.Goals as goal

pub returns : goal.returns
returns c = outcome_done select_meant c.in_ok-ask.ask c.args.stores.now c.args.attempt.now.caller (asked_by c.args.how c.args.items.now c.args.params.now c.args.attempt.now.caller.session (select_tree c.args.select.now)) c.requires c.in_ok-ask.ensures

pub returns-in_err-ask : goal.returns-in_err-ask
returns-in_err-ask c =
    handed_on c.from_residual.ensures.1 (outcome_refused select_meant c.in_err-ask.field-0.0 c.args.stores.now c.args.attempt.now.caller (asked_by c.args.how c.args.items.now c.args.params.now c.args.attempt.now.caller.session (select_tree c.args.select.now)) c.requires c.in_err-ask.ensures)
