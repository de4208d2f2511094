use Rattle.std.proofs.Common.{◌∙◌, List, Vec, Global, map, ap}
use Rattle.pg_values.specs.declared.value.Value.{Value}
use Rattle.history.specs.declared.catalogue.Table.{Table}
use Rattle.sql_ast.specs.Expressions.{trees}
use Rattle.statement_steps.proofs.Steps.{handed_on}
use Rattle.insert_statement.proofs.Meant.{rows_done, rows_refused}
use Rattle.insert_statement.proofs.Whole.{are_rows_of}
use Rattle.insert_statement.proofs.rows.rows_meant.Goals as goal

pub returns-clause-step : goal.returns-clause-step
returns-clause-step c =
    rows_done (λ (v : Vec (List Value) Global). v.items) c.in_ok-rows.rows c.args.stores.now c.args.attempt.now.caller c.args.table c.as_slice-columns.result.now c.args.params.now c.args.statement.now.columns (map trees c.args.statement.now.rows) c.requires.may
    (λ h stands. c.as_slice-columns.ensures ∙ ap (λ (t : Table). t.columns) (c.table.ensures h stands)) c.in_ok-rows.ensures

pub returns-clause-of : goal.returns-clause-of
returns-clause-of c =
    are_rows_of c.inserts_fit.ensures c.args.stores.now.catalog c.args.table c.as_slice-columns.result.now c.args.params.now c.args.attempt.now.caller.session c.args.statement.now.columns (map trees c.args.statement.now.rows) c.in_ok-rows.rows.items c.requires.known
    (λ h stands. c.as_slice-columns.ensures ∙ ap (λ (t : Table). t.columns) (c.table.ensures h stands)) c.in_ok-rows.ensures

pub returns-in_err-rows-clause-step : goal.returns-in_err-rows-clause-step
returns-in_err-rows-clause-step c =
    handed_on c.from_residual.ensures.1 (rows_refused (λ (v : Vec (List Value) Global). v.items) c.in_err-rows.field-0.0 c.args.stores.now c.args.attempt.now.caller c.args.table c.as_slice-columns.result.now c.args.params.now c.args.statement.now.columns (map trees c.args.statement.now.rows) c.requires.may
    (λ h stands. c.as_slice-columns.ensures ∙ ap (λ (t : Table). t.columns) (c.table.ensures h stands)) c.in_err-rows.ensures)
