use Rattle.table_statements.specs.Tables.{created}
use Rattle.statement_runs.proofs.Whole.{silent_ends}
use Rattle.statement_runs.proofs.attempts.attempt_create_table.Goals as goal

pub returns : goal.returns
returns c rest ps out = silent_ends rest c.ended.result c.create_table.result c.ended.ensures c.args.stores.now c.create_table.new.stores c.args.attempt.now.caller (created c.args.attempt.now.names.now c.args.attempt.now.caller c.args.name.now c.args.columns.now c.args.by.now) out c.create_table.ensures
