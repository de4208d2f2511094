use Rattle.std.proofs.Common.{List, ℕ, ◌+◌, sym, subst}
use Rattle.sql_ast.specs.Commands.{detaches}
use Rattle.sql_ast.specs.declared.detachment.Detachment.{Detachment}
use Rattle.statement_steps.specs.declared.ending.Ending.{Ending}
use Rattle.statement_steps.specs.Steps.{IsStep}
use Rattle.alter_table.specs.Concurrent.{detached_concurrently}
use Rattle.alter_table.specs.Detached.{detached}
use Rattle.alter_table.specs.Finalized.{finalized}
use Rattle.statement_runs.specs.Attempted.{command_attempted}
use Rattle.statement_runs.specs.Printed.{IsStatement}
use Rattle.statement_runs.proofs.Whole.{silent_ends, staged_is}
use Rattle.statement_runs.proofs.attempts.attempt_detach.Goals as goal

pub returns-in-AtOnce : goal.returns-in-AtOnce
returns-in-AtOnce c ps out =
    let parented = subst (λ (p : List ℕ). IsStep (λ (u : Unit {0}). u) c.detach.result c.args.stores.now c.detach.new.stores c.args.attempt.now.caller (c.args.attempt.now.caller.cmd + 1) (detached c.args.attempt.now.names.now c.args.attempt.now.caller p c.as_bytes-table.result.now)) c.as_bytes-above.ensures c.detach.ensures in
    let step = subst (λ (n : List ℕ). IsStep (λ (u : Unit {0}). u) c.detach.result c.args.stores.now c.detach.new.stores c.args.attempt.now.caller (c.args.attempt.now.caller.cmd + 1) (detached c.args.attempt.now.names.now c.args.attempt.now.caller c.args.parent.now n)) c.as_bytes-table.ensures parented in
    let is = silent_ends c.args.rest c.ended.result c.detach.result c.ended.ensures c.args.stores.now c.detach.new.stores c.args.attempt.now.caller (detached c.args.attempt.now.names.now c.args.attempt.now.caller c.args.parent.now c.args.name.now) out step in
    subst (λ (how : Detachment). IsStatement c.args.rest c.ended.result c.args.stores.now c.detach.new.stores out out c.args.attempt.now.caller (command_attempted c.args.attempt.now.names.now c.args.attempt.now.caller c.args.rest ps (detaches c.args.parent.now c.args.name.now how))) (sym c.in-AtOnce.is) is

pub returns-in-Concurrently : goal.returns-in-Concurrently
returns-in-Concurrently c ps out =
    let parented = subst (λ (p : List ℕ). IsStep (λ (e : Ending). e) c.detach_concurrently.result c.args.stores.now c.detach_concurrently.new.stores c.args.attempt.now.caller (c.args.attempt.now.caller.cmd + 1) (detached_concurrently c.args.attempt.now.names.now c.args.attempt.now.caller c.args.rest p c.as_bytes-table.result.now)) c.as_bytes-above.ensures c.detach_concurrently.ensures in
    let step = subst (λ (n : List ℕ). IsStep (λ (e : Ending). e) c.detach_concurrently.result c.args.stores.now c.detach_concurrently.new.stores c.args.attempt.now.caller (c.args.attempt.now.caller.cmd + 1) (detached_concurrently c.args.attempt.now.names.now c.args.attempt.now.caller c.args.rest c.args.parent.now n)) c.as_bytes-table.ensures parented in
    let is = staged_is c.args.rest c.detach_concurrently.result c.args.stores.now c.detach_concurrently.new.stores c.args.attempt.now.caller (detached_concurrently c.args.attempt.now.names.now c.args.attempt.now.caller c.args.rest c.args.parent.now c.args.name.now) out step in
    subst (λ (how : Detachment). IsStatement c.args.rest c.detach_concurrently.result c.args.stores.now c.detach_concurrently.new.stores out out c.args.attempt.now.caller (command_attempted c.args.attempt.now.names.now c.args.attempt.now.caller c.args.rest ps (detaches c.args.parent.now c.args.name.now how))) (sym c.in-Concurrently.is) is

pub returns-in-Finalize : goal.returns-in-Finalize
returns-in-Finalize c ps out =
    let parented = subst (λ (p : List ℕ). IsStep (λ (u : Unit {0}). u) c.finalize.result c.args.stores.now c.finalize.new.stores c.args.attempt.now.caller (c.args.attempt.now.caller.cmd + 1) (finalized c.args.attempt.now.names.now c.args.attempt.now.caller p c.as_bytes-table.result.now)) c.as_bytes-above.ensures c.finalize.ensures in
    let step = subst (λ (n : List ℕ). IsStep (λ (u : Unit {0}). u) c.finalize.result c.args.stores.now c.finalize.new.stores c.args.attempt.now.caller (c.args.attempt.now.caller.cmd + 1) (finalized c.args.attempt.now.names.now c.args.attempt.now.caller c.args.parent.now n)) c.as_bytes-table.ensures parented in
    let is = silent_ends c.args.rest c.ended-in-Finalize.result c.finalize.result c.ended-in-Finalize.ensures c.args.stores.now c.finalize.new.stores c.args.attempt.now.caller (finalized c.args.attempt.now.names.now c.args.attempt.now.caller c.args.parent.now c.args.name.now) out step in
    subst (λ (how : Detachment). IsStatement c.args.rest c.ended-in-Finalize.result c.args.stores.now c.finalize.new.stores out out c.args.attempt.now.caller (command_attempted c.args.attempt.now.names.now c.args.attempt.now.caller c.args.rest ps (detaches c.args.parent.now c.args.name.now how))) (sym c.in-Finalize.is) is
