use Rattle.std.proofs.Common.{sym, subst}
use Rattle.sql_ast.specs.Queries.{row_tree}
use Rattle.sql_ast.specs.declared.query.RowStatement.{RowStatement}
use Rattle.statement_steps.specs.Ended.{ended}
use Rattle.statement_runs.specs.Attempted.{plan_of_execution}
use Rattle.statement_runs.specs.Printed.{IsStatement}
use Rattle.statement_runs.proofs.prepared_attempts.plan_execution.Goals as goal

pub returns-in-Select : goal.returns-in-Select
returns-in-Select c left =
    subst (λ (x : RowStatement). IsStatement left (ended c.attempt_explain.result) c.args.stores.now c.attempt_explain.new.stores c.args.out.now.items c.attempt_explain.new.out.items c.args.attempt.now.caller
    (plan_of_execution c.args.how c.args.attempt.now.names.now c.args.params.now c.args.attempt.now.caller c.args.analyze (row_tree x))) (sym c.in-Select.is) (c.attempt_explain.ensures left)

pub returns-in-Insert : goal.returns-in-Insert
returns-in-Insert c left =
    let s = c.args.stores.now in
    let out = c.args.out.now.items in
    subst (λ (x : RowStatement). IsStatement left (ended c.omit.result) s s out out c.args.attempt.now.caller (plan_of_execution c.args.how c.args.attempt.now.names.now c.args.params.now c.args.attempt.now.caller c.args.analyze (row_tree x))) (sym c.in-Insert.is)
    (c.omit.ensures left out)

pub returns-in-Update : goal.returns-in-Update
returns-in-Update c left =
    let s = c.args.stores.now in
    let out = c.args.out.now.items in
    subst (λ (x : RowStatement). IsStatement left (ended c.omit-in-Update.result) s s out out c.args.attempt.now.caller (plan_of_execution c.args.how c.args.attempt.now.names.now c.args.params.now c.args.attempt.now.caller c.args.analyze (row_tree x))) (sym c.in-Update.is)
    (c.omit-in-Update.ensures left out)

pub returns-in-Delete : goal.returns-in-Delete
returns-in-Delete c left =
    let s = c.args.stores.now in
    let out = c.args.out.now.items in
    subst (λ (x : RowStatement). IsStatement left (ended c.omit-in-Delete.result) s s out out c.args.attempt.now.caller (plan_of_execution c.args.how c.args.attempt.now.names.now c.args.params.now c.args.attempt.now.caller c.args.analyze (row_tree x))) (sym c.in-Delete.is)
    (c.omit-in-Delete.ensures left out)
