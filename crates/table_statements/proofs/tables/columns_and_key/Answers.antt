use Rattle.std.proofs.Common.{◌≡◌, List, Option, Ok, Err, subst}
use Rattle.std.proofs.lemmas.Result.{err_from_is_err_and}
use Rattle.pg_values.specs.Refusals.{IsAnswer}
use Rattle.bound_forms.specs.declared.level.Level.{Level}
use Rattle.history.specs.declared.catalogue.Column.{Column}
use Rattle.table_binder.specs.Columns.{bound_columns}
use Rattle.table_statements.specs.Seen.{seen_plan}
use Rattle.ddl_steps.specs.Refused.{next_answer}
use Rattle.table_statements.specs.Tables.{level_by, plan_with}
use Rattle.table_statements.proofs.Chains.{plan_told}
use Rattle.ddl_steps.proofs.Firsts.{past_ok, stops_at}
use Rattle.table_statements.proofs.tables.columns_and_key.Goals as goal

pub returns-in_err-columns-clause-answer : goal.returns-in_err-columns-clause-answer
returns-in_err-columns-clause-answer c =
    let p = err_from_is_err_and c.from_residual.result c.from_residual.ensures.1 in
    rw (p.1, p.2) (stops_at seen_plan c.in_err-columns.field-0.0 (bound_columns c.args.definitions.now) (λ columns. next_answer (level_by columns c.args.by.now) (plan_with columns)) c.in_err-columns.ensures)

pub returns-in_err-level-clause-answer : goal.returns-in_err-level-clause-answer
returns-in_err-level-clause-answer c =
    let p = err_from_is_err_and c.from_residual-in_err-level.result c.from_residual-in_err-level.ensures.1 in
    let cs = c.in_ok-columns.columns in
    rw (p.1, p.2) (past_ok seen_plan (Err c.in_err-level.field-0.0) (bound_columns c.args.definitions.now) cs (λ columns. next_answer (level_by columns c.args.by.now) (plan_with columns)) c.in_ok-columns.ensures
    (stops_at seen_plan c.in_err-level.field-0.0 (level_by cs c.args.by.now) (plan_with cs)
    (subst (λ (x : List Column). IsAnswer {T = Option Level} (Err c.in_err-level.field-0.0) (level_by x c.args.by.now)) c.as_slice.ensures c.in_err-level.ensures.answer)))

pub returns-clause-answer : goal.returns-clause-answer
returns-clause-answer c =
    plan_told c.args.definitions.now c.args.by.now (bound_columns c.args.definitions.now) c.in_ok-columns.columns c.in_ok-level.level c.in_ok-columns.ensures
    (subst (λ (x : List Column). level_by x c.args.by.now ≡ Ok c.in_ok-level.level) c.as_slice.ensures c.in_ok-level.ensures.answer)
