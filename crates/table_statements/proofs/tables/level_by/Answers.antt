use Rattle.std.proofs.Common.{◌≡◌, Option, Some, Ok, Err, sym, subst}
use Rattle.std.proofs.lemmas.Result.{err_from_is_err_and}
use Rattle.pg_values.specs.Refusals.{IsAnswer}
use Rattle.bound_forms.specs.declared.level.Level.{Level}
use Rattle.sql_ast.specs.declared.table_definition.Partitioning.{Partitioning}
use Rattle.table_statements.specs.Tables as tables
use Rattle.table_statements.proofs.Chains.{level_told, level_refused}
use Rattle.table_statements.proofs.tables.level_by.Goals as goal

pub returns-in_ok-bind_partitioning-in-Some-clause-answer : goal.returns-in_ok-bind_partitioning-in-Some-clause-answer
returns-in_ok-bind_partitioning-in-Some-clause-answer c =
    subst (λ (o : Option Partitioning). tables.level_by c.args.columns.now o ≡ Ok (Some c.in_ok-bind_partitioning-in-Some.field-0)) (sym c.in-Some.is)
    (level_told c.args.columns.now c.in-Some.by c.in_ok-bind_partitioning-in-Some.field-0 c.in_ok-bind_partitioning-in-Some.ensures.answer)

pub returns-in_err-bind_partitioning-in-Some-clause-answer : goal.returns-in_err-bind_partitioning-in-Some-clause-answer
returns-in_err-bind_partitioning-in-Some-clause-answer c =
    let p = err_from_is_err_and c.from_residual.result c.from_residual.ensures.1 in
    rw (p.1, p.2) (subst (λ (o : Option Partitioning). IsAnswer {T = Option Level} (Err c.in_err-bind_partitioning-in-Some.field-0.0) (tables.level_by c.args.columns.now o)) (sym c.in-Some.is)
    (level_refused c.args.columns.now c.in-Some.by c.in_err-bind_partitioning-in-Some.field-0.0 c.in_err-bind_partitioning-in-Some.ensures.answer))
