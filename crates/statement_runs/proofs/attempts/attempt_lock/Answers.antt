use Rattle.std.proofs.Common.{List, ◌+◌, subst}
use Rattle.sql_ast.specs.declared.locked_table.LockedTable.{LockedTable}
use Rattle.statement_steps.specs.Steps.{IsStep}
use Rattle.table_statements.specs.Locked.{locked}
use Rattle.statement_runs.proofs.Whole.{silent_ends}
use Rattle.statement_runs.proofs.attempts.attempt_lock.Goals as goal

pub returns : goal.returns
returns c rest ps out =
    let step = subst (λ (ts : List LockedTable). IsStep (λ (u : Unit {0}). u) c.lock.result c.args.stores.now c.lock.new.stores c.args.attempt.now.caller (c.args.attempt.now.caller.cmd + 1) (locked c.args.attempt.now.names.now c.args.attempt.now.caller.session ts c.args.mode)) c.as_slice.ensures c.lock.ensures in
    silent_ends rest c.ended.result c.lock.result c.ended.ensures c.args.stores.now c.lock.new.stores c.args.attempt.now.caller (locked c.args.attempt.now.names.now c.args.attempt.now.caller.session c.args.tables.now c.args.mode) out step
