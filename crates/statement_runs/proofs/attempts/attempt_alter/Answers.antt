use Rattle.std.proofs.Common.{sym, subst}
use Rattle.sql_ast.specs.Commands.{command_tree}
use Rattle.sql_ast.specs.declared.command.Command.{Command}
use Rattle.prepared_statements.specs.Kept.{listed}
use Rattle.statement_runs.specs.Attempted.{command_attempted}
use Rattle.statement_runs.specs.Executions.{command_kept}
use Rattle.statement_runs.specs.Printed.{IsKept, IsStatement}
use Rattle.statement_runs.proofs.Whole.{kept_still}
use Rattle.statement_runs.proofs.attempts.attempt_alter.Goals as goal

pub returns-in-Attach-clause-is : goal.returns-in-Attach-clause-is
returns-in-Attach-clause-is c out =
    subst (λ (x : Command). IsStatement c.args.rest c.attempt_attach.result c.args.stores.now c.attempt_attach.new.stores out out c.args.attempt.now.caller (command_attempted c.args.attempt.now.names.now c.args.attempt.now.caller c.args.rest (listed c.args.prepared.now) (command_tree x))) (sym c.in-Attach.is) (c.attempt_attach.ensures c.args.rest (listed c.args.prepared.now) out)

pub returns-in-Detach-clause-is : goal.returns-in-Detach-clause-is
returns-in-Detach-clause-is c out =
    subst (λ (x : Command). IsStatement c.args.rest c.attempt_detach.result c.args.stores.now c.attempt_detach.new.stores out out c.args.attempt.now.caller (command_attempted c.args.attempt.now.names.now c.args.attempt.now.caller c.args.rest (listed c.args.prepared.now) (command_tree x))) (sym c.in-Detach.is) (c.attempt_detach.ensures (listed c.args.prepared.now) out)

pub returns-in_default-clause-is : goal.returns-in_default-clause-is
returns-in_default-clause-is c out = c.attempt_other.ensures.is c.args.rest out

pub attempt_other-requires-clause-altered : goal.attempt_other-requires-clause-altered
attempt_other-requires-clause-altered c = let i = c.in_default in (i.not-Attach, i.not-Detach)

-- ---- what is prepared

pub returns-in-Attach-clause-kept : goal.returns-in-Attach-clause-kept
returns-in-Attach-clause-kept c =
    let ps = listed c.args.prepared.now in
    subst (λ (x : Command). IsKept c.attempt_attach.result ps ps (command_kept ps (command_tree x))) (sym c.in-Attach.is) (kept_still c.attempt_attach.result ps)

pub returns-in-Detach-clause-kept : goal.returns-in-Detach-clause-kept
returns-in-Detach-clause-kept c =
    let ps = listed c.args.prepared.now in
    subst (λ (x : Command). IsKept c.attempt_detach.result ps ps (command_kept ps (command_tree x))) (sym c.in-Detach.is) (kept_still c.attempt_detach.result ps)
