use Rattle.std.proofs.Common.{List, ℕ, ◌+◌, subst}
use Rattle.sql_ast.specs.Commands.{bound_tree}
use Rattle.statement_steps.specs.Steps.{IsStep}
use Rattle.alter_table.specs.Attached.{attached}
use Rattle.statement_runs.proofs.Whole.{silent_ends}
use Rattle.statement_runs.proofs.attempts.attempt_attach.Goals as goal

pub returns : goal.returns
returns c rest ps out =
    let parented = subst (λ (p : List ℕ). IsStep (λ (u : Unit {0}). u) c.attach.result c.args.stores.now c.attach.new.stores c.args.attempt.now.caller (c.args.attempt.now.caller.cmd + 1) (attached c.args.attempt.now.names.now c.args.attempt.now.caller p c.as_bytes-table.result.now (bound_tree c.args.bound.now))) c.as_bytes-above.ensures c.attach.ensures in
    let step = subst (λ (n : List ℕ). IsStep (λ (u : Unit {0}). u) c.attach.result c.args.stores.now c.attach.new.stores c.args.attempt.now.caller (c.args.attempt.now.caller.cmd + 1) (attached c.args.attempt.now.names.now c.args.attempt.now.caller c.args.parent.now n (bound_tree c.args.bound.now))) c.as_bytes-table.ensures parented in
    silent_ends rest c.ended.result c.attach.result c.ended.ensures c.args.stores.now c.attach.new.stores c.args.attempt.now.caller (attached c.args.attempt.now.names.now c.args.attempt.now.caller c.args.parent.now c.args.name.now (bound_tree c.args.bound.now)) out step
