use Rattle.std.proofs.Common.{List, Result, ap, sym, subst}
use Rattle.pg_values.specs.declared.fault.Fault.{Fault}
use Rattle.history.specs.History.{History}
use Rattle.sql_ast.specs.Expressions.{trees}
use Rattle.sql_ast.specs.Queries.{row_tree}
use Rattle.sql_ast.specs.declared.query.RowStatement.{RowStatement}
use Rattle.expression_binder.specs.declared.scope.Param.{Param}
use Rattle.schedule.specs.declared.tally.Tally.{Tally}
use Rattle.prepared_statements.specs.Kept.{listed}
use Rattle.statement_steps.specs.Ended.{ended}
use Rattle.statement_runs.specs.Attempted.{execute_attempted, row_attempted}
use Rattle.statement_runs.specs.Executions.{Execution, executed}
use Rattle.statement_runs.specs.Given.{execution_given, row_given}
use Rattle.statement_runs.specs.Printed.{IsStatement}
use Rattle.statement_runs.specs.Tallies.{Grows}
use Rattle.statement_runs.proofs.Growing.{refused_gives}
use Rattle.statement_runs.proofs.Whole.{same_statement, told_fault}
use Rattle.statement_runs.proofs.prepared_attempts.attempt_execute.Goals as goal

pub returns-in-Ok-clause-is : goal.returns-in-Ok-clause-is
returns-in-Ok-clause-is c =
    let k = c.args.attempt.now.caller in
    let names = c.args.attempt.now.names.now in
    let e = c.in-Ok.execution in
    let told = λ (h : History). executed h k.session c.args.rest (listed c.args.prepared.now) c.args.name.now (trees c.args.arguments.now) in
    same_statement c.args.rest (ended c.attempt_rows.result) c.args.stores.now c.attempt_rows.new.stores k
    (row_attempted c.args.trailed c.args.how names e.params.items k c.args.rest (row_tree e.statement.value))
    (λ h. execute_attempted c.args.trailed c.args.how names k c.args.rest (told h) h) c.args.out.now.items c.attempt_rows.new.out.items
    (λ h stands. ap (λ (r : Result Execution Fault). execute_attempted c.args.trailed c.args.how names k c.args.rest r h) (c.in-Ok.ensures h stands))
    (subst (λ (ps : List Param). IsStatement c.args.rest (ended c.attempt_rows.result) c.args.stores.now c.attempt_rows.new.stores c.args.out.now.items c.attempt_rows.new.out.items k
    (row_attempted c.args.trailed c.args.how names ps k c.args.rest (row_tree e.statement.value))) c.deref.ensures.value
    (subst (λ (s : RowStatement). IsStatement c.args.rest (ended c.attempt_rows.result) c.args.stores.now c.attempt_rows.new.stores c.args.out.now.items c.attempt_rows.new.out.items k
    (row_attempted c.args.trailed c.args.how names c.deref.result.now k c.args.rest (row_tree s))) c.deref-in-Ok.ensures c.attempt_rows.ensures.is))

pub returns-in-Ok-clause-tally : goal.returns-in-Ok-clause-tally
returns-in-Ok-clause-tally c h stands at go =
    let k = c.args.attempt.now.caller in
    let names = c.args.attempt.now.names.now in
    let e = c.in-Ok.execution in
    subst (λ (n : Tally). Grows c.attempt_rows.result c.args.tally.now c.attempt_rows.new.tally n)
    (sym (ap (λ (r : Result Execution Fault). execution_given c.args.how names k c.args.rest r h) (c.in-Ok.ensures h stands)))
    (subst (λ (ps : List Param). Grows c.attempt_rows.result c.args.tally.now c.attempt_rows.new.tally (row_given c.args.how names ps k c.args.rest (row_tree e.statement.value) h)) c.deref.ensures.value
    (subst (λ (s : RowStatement). Grows c.attempt_rows.result c.args.tally.now c.attempt_rows.new.tally (row_given c.args.how names c.deref.result.now k c.args.rest (row_tree s) h)) c.deref-in-Ok.ensures
    (c.attempt_rows.ensures.tally h stands at go)))

pub returns-in-Err-clause-is : goal.returns-in-Err-clause-is
returns-in-Err-clause-is c =
    let k = c.args.attempt.now.caller in
    let told = λ (h : History). executed h k.session c.args.rest (listed c.args.prepared.now) c.args.name.now (trees c.args.arguments.now) in
    c.stop_for.ensures.is c.args.rest c.args.out.now.items (λ h. execute_attempted c.args.trailed c.args.how c.args.attempt.now.names.now k c.args.rest (told h) h)
    (λ h stands fault is. ap (λ (r : Result Execution Fault). execute_attempted c.args.trailed c.args.how c.args.attempt.now.names.now k c.args.rest r h) (told_fault c.in-Err.refusal fault (told h) is (c.in-Err.ensures h stands)))

pub returns-in-Err-clause-tally : goal.returns-in-Err-clause-tally
returns-in-Err-clause-tally c h stands at go =
    let k = c.args.attempt.now.caller in
    let told = executed h k.session c.args.rest (listed c.args.prepared.now) c.args.name.now (trees c.args.arguments.now) in
    c.stop_for.ensures.tally c.args.tally.now (execution_given c.args.how c.args.attempt.now.names.now k c.args.rest told h)
    (λ fault is. refused_gives c.args.how c.args.attempt.now.names.now k c.args.rest told fault h c.args.tally.now (told_fault c.in-Err.refusal fault told is (c.in-Err.ensures h stands)))
