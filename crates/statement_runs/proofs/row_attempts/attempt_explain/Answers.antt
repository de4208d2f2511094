use Rattle.sql_ast.specs.Queries.{select_tree}
use Rattle.select_statement.specs.Explained.{explains}
use Rattle.statement_runs.proofs.Whole.{tabled_is, tabled_stops}
use Rattle.statement_runs.proofs.row_attempts.attempt_explain.Goals as goal

pub returns-in-Ok-write_table : goal.returns-in-Ok-write_table
returns-in-Ok-write_table c left =
    tabled_is left c.in-Ok.answer c.args.stores.now c.explain.new.stores c.args.attempt.now.caller (explains c.args.analyze c.args.how c.args.attempt.now.names.now c.args.params.now c.args.attempt.now.caller (select_tree c.args.statement.now)) c.args.out.now.items c.write_table.new.out.items c.in-Ok-write_table.ensures.ok c.in-Ok.ensures

pub returns : goal.returns
returns c left = tabled_stops left c.in-Err.stop c.args.stores.now c.explain.new.stores c.args.attempt.now.caller (explains c.args.analyze c.args.how c.args.attempt.now.names.now c.args.params.now c.args.attempt.now.caller (select_tree c.args.statement.now)) c.args.out.now.items c.in-Err.ensures
