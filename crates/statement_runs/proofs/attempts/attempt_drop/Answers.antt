use Rattle.std.proofs.Common.{List, ℕ, ◌+◌, subst}
use Rattle.statement_steps.specs.Steps.{IsStep}
use Rattle.table_statements.specs.Drops.{dropped}
use Rattle.statement_runs.proofs.Whole.{silent_ends}
use Rattle.statement_runs.proofs.attempts.attempt_drop.Goals as goal

pub returns : goal.returns
returns c rest ps out =
    let step = subst (λ (ts : List (List ℕ)). IsStep (λ (u : Unit {0}). u) c.drop_tables.result c.args.stores.now c.drop_tables.new.stores c.args.attempt.now.caller (c.args.attempt.now.caller.cmd + 1) (dropped c.args.attempt.now.names.now c.args.attempt.now.caller c.args.if_there ts)) c.as_slice.ensures c.drop_tables.ensures in
    silent_ends rest c.ended.result c.drop_tables.result c.ended.ensures c.args.stores.now c.drop_tables.new.stores c.args.attempt.now.caller (dropped c.args.attempt.now.names.now c.args.attempt.now.caller c.args.if_there c.args.tables.now) out step
