use Rattle.std.proofs.Common.{ap, ◌∙◌}
use Rattle.history.specs.declared.catalogue.Table.{Table}
use Rattle.statement_steps.proofs.Steps.{handed_on}
use Rattle.change_statement.specs.Gathered.{table_named, settings_of, condition_of}
use Rattle.change_statement.proofs.Found.{bound_done, bound_refused}
use Rattle.change_statement.proofs.asking.bind.Goals as goal

pub returns : goal.returns
returns c =
    bound_done c.args.how c.in_ok-ask.ask c.args.stores.now c.args.attempt.now.caller c.args.table c.as_slice-columns.result.now c.args.params.now (table_named c.args.change) (settings_of c.args.change) (condition_of c.args.change) c.requires.may
    (λ h stands. c.as_slice-columns.ensures ∙ ap (λ (t : Table). t.columns) (c.table.ensures h stands)) c.in_ok-ask.ensures

pub returns-in_err-ask : goal.returns-in_err-ask
returns-in_err-ask c =
    handed_on c.from_residual.ensures.1
    (bound_refused c.args.how c.in_err-ask.field-0.0 c.args.stores.now c.args.attempt.now.caller c.args.table c.as_slice-columns.result.now c.args.params.now (table_named c.args.change) (settings_of c.args.change) (condition_of c.args.change) c.requires.may
    (λ h stands. c.as_slice-columns.ensures ∙ ap (λ (t : Table). t.columns) (c.table.ensures h stands)) c.in_err-ask.ensures)
