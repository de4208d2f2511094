use Rattle.std.proofs.Common.{sym, subst}
use Rattle.sql_ast.specs.Commands.{command_tree}
use Rattle.sql_ast.specs.declared.command.Command.{Command}
use Rattle.prepared_statements.specs.Kept.{listed}
use Rattle.statement_runs.specs.Attempted.{command_attempted}
use Rattle.statement_runs.specs.Executions.{command_kept}
use Rattle.statement_runs.specs.Printed.{IsKept, IsStatement}
use Rattle.statement_runs.proofs.Whole.{kept_still}
use Rattle.statement_runs.proofs.attempts.attempt_command.Goals as goal

pub returns-in-CreateTable-clause-is : goal.returns-in-CreateTable-clause-is
returns-in-CreateTable-clause-is c out =
    subst (λ (x : Command). IsStatement c.args.rest c.attempt_create_table.result c.args.stores.now c.attempt_create_table.new.stores out out c.args.attempt.now.caller (command_attempted c.args.attempt.now.names.now c.args.attempt.now.caller c.args.rest (listed c.args.prepared.now) (command_tree x))) (sym c.in-CreateTable.is) (c.attempt_create_table.ensures c.args.rest (listed c.args.prepared.now) out)

pub returns-in-CreatePartition-clause-is : goal.returns-in-CreatePartition-clause-is
returns-in-CreatePartition-clause-is c out =
    subst (λ (x : Command). IsStatement c.args.rest c.attempt_create_partition.result c.args.stores.now c.attempt_create_partition.new.stores out out c.args.attempt.now.caller (command_attempted c.args.attempt.now.names.now c.args.attempt.now.caller c.args.rest (listed c.args.prepared.now) (command_tree x))) (sym c.in-CreatePartition.is) (c.attempt_create_partition.ensures c.args.rest (listed c.args.prepared.now) out)

pub returns-in-DropTables-clause-is : goal.returns-in-DropTables-clause-is
returns-in-DropTables-clause-is c out =
    subst (λ (x : Command). IsStatement c.args.rest c.attempt_drop.result c.args.stores.now c.attempt_drop.new.stores out out c.args.attempt.now.caller (command_attempted c.args.attempt.now.names.now c.args.attempt.now.caller c.args.rest (listed c.args.prepared.now) (command_tree x))) (sym c.in-DropTables.is) (c.attempt_drop.ensures c.args.rest (listed c.args.prepared.now) out)

pub attempt_alter-requires-clause-made : goal.attempt_alter-requires-clause-made
attempt_alter-requires-clause-made c = let i = c.in_default in (i.not-CreateTable, i.not-CreatePartition, i.not-DropTables)

-- ---- what is prepared

pub returns-in-CreateTable-clause-kept : goal.returns-in-CreateTable-clause-kept
returns-in-CreateTable-clause-kept c =
    let ps = listed c.args.prepared.now in
    subst (λ (x : Command). IsKept c.attempt_create_table.result ps ps (command_kept ps (command_tree x))) (sym c.in-CreateTable.is) (kept_still c.attempt_create_table.result ps)

pub returns-in-CreatePartition-clause-kept : goal.returns-in-CreatePartition-clause-kept
returns-in-CreatePartition-clause-kept c =
    let ps = listed c.args.prepared.now in
    subst (λ (x : Command). IsKept c.attempt_create_partition.result ps ps (command_kept ps (command_tree x))) (sym c.in-CreatePartition.is) (kept_still c.attempt_create_partition.result ps)

pub returns-in-DropTables-clause-kept : goal.returns-in-DropTables-clause-kept
returns-in-DropTables-clause-kept c =
    let ps = listed c.args.prepared.now in
    subst (λ (x : Command). IsKept c.attempt_drop.result ps ps (command_kept ps (command_tree x))) (sym c.in-DropTables.is) (kept_still c.attempt_drop.result ps)
