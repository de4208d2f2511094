use Rattle.std.proofs.Common.{List, Result, ap, subst}
use Rattle.pg_values.specs.declared.fault.Fault.{Fault}
use Rattle.history.specs.History.{History}
use Rattle.sql_ast.specs.Expressions.{trees}
use Rattle.sql_ast.specs.Queries.{row_tree}
use Rattle.sql_ast.specs.declared.query.RowStatement.{RowStatement}
use Rattle.expression_binder.specs.declared.scope.Param.{Param}
use Rattle.prepared_statements.specs.Kept.{listed}
use Rattle.statement_steps.specs.Ended.{ended}
use Rattle.statement_runs.specs.Attempted.{execution_explained, plan_of_execution}
use Rattle.statement_runs.specs.Executions.{Execution, explained_by}
use Rattle.statement_runs.specs.Printed.{IsStatement}
use Rattle.statement_runs.proofs.Whole.{same_statement, told_fault}
use Rattle.statement_runs.proofs.prepared_attempts.attempt_explain_execute.Goals as goal

pub returns-in-Ok : goal.returns-in-Ok
returns-in-Ok c left =
    let k = c.args.attempt.now.caller in
    let names = c.args.attempt.now.names.now in
    let e = c.in-Ok.execution in
    let told = λ (h : History). explained_by h k.session (listed c.args.prepared.now) c.args.name.now (trees c.args.arguments.now) in
    same_statement left (ended c.plan_execution.result) c.args.stores.now c.plan_execution.new.stores k
    (plan_of_execution c.args.how names e.params.items k c.args.analyze (row_tree e.statement.value))
    (λ h. execution_explained c.args.how names k c.args.analyze (told h) h) c.args.out.now.items c.plan_execution.new.out.items
    (λ h stands. ap (λ (r : Result Execution Fault). execution_explained c.args.how names k c.args.analyze r h) (c.in-Ok.ensures h stands))
    (subst (λ (ps : List Param). IsStatement left (ended c.plan_execution.result) c.args.stores.now c.plan_execution.new.stores c.args.out.now.items c.plan_execution.new.out.items k
    (plan_of_execution c.args.how names ps k c.args.analyze (row_tree e.statement.value))) c.deref.ensures.value
    (subst (λ (s : RowStatement). IsStatement left (ended c.plan_execution.result) c.args.stores.now c.plan_execution.new.stores c.args.out.now.items c.plan_execution.new.out.items k
    (plan_of_execution c.args.how names c.deref.result.now k c.args.analyze (row_tree s))) c.deref-in-Ok.ensures (c.plan_execution.ensures left)))

pub returns-in-Err : goal.returns-in-Err
returns-in-Err c left =
    let k = c.args.attempt.now.caller in
    let told = λ (h : History). explained_by h k.session (listed c.args.prepared.now) c.args.name.now (trees c.args.arguments.now) in
    c.stop_for.ensures.is left c.args.out.now.items (λ h. execution_explained c.args.how c.args.attempt.now.names.now k c.args.analyze (told h) h)
    (λ h stands fault is. ap (λ (r : Result Execution Fault). execution_explained c.args.how c.args.attempt.now.names.now k c.args.analyze r h) (told_fault c.in-Err.refusal fault (told h) is (c.in-Err.ensures h stands)))
