use Rattle.sql_ast.specs.Queries.{maybe_tree}
use Rattle.change_statement.specs.Deleted.{deleted}
use Rattle.statement_runs.proofs.row_attempts.attempt_delete.Goals as goal

pub returns-clause-is : goal.returns-clause-is
returns-clause-is c =
    let s = c.args.statement.now in
    c.finish_changes.ensures.is c.args.rest c.args.stores.now c.args.attempt.now.caller (deleted c.args.how c.args.attempt.now.names.now c.args.params.now c.args.attempt.now.caller c.args.rest s.table (maybe_tree s.condition)) c.delete-done.ensures

pub returns-clause-tally : goal.returns-clause-tally
returns-clause-tally c =
    let s = c.args.statement.now in
    c.finish_changes.ensures.tally c.args.rest c.args.stores.now c.args.attempt.now.caller (deleted c.args.how c.args.attempt.now.names.now c.args.params.now c.args.attempt.now.caller c.args.rest s.table (maybe_tree s.condition)) c.delete-done.ensures
