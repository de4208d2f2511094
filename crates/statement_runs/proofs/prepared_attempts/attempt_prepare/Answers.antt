use Rattle.sql_ast.specs.Queries.{row_tree}
use Rattle.prepared_statements.specs.Prepared.{prepared}
use Rattle.prepared_statements.specs.Kept.{listed}
use Rattle.statement_steps.specs.Asks.{held_at}
use Rattle.statement_steps.proofs.Steps.{goes, handed_on, may_go_on, stops}
use Rattle.statement_runs.specs.Attempted.{taken}
use Rattle.statement_runs.proofs.Whole.{kept_out}
use Rattle.statement_runs.proofs.prepared_attempts.attempt_prepare.Goals as goal

pub list-requires : goal.list-requires
list-requires c = may_go_on _ _ _ _ _ _ c.requires c.in_ok-hold_if_repeatable.ensures.step

pub returns-in_err-hold_if_repeatable-clause-is : goal.returns-in_err-hold_if_repeatable-clause-is
returns-in_err-hold_if_repeatable-clause-is c =
    handed_on c.from_residual.ensures.1
    (stops (held_at c.args.attempt.now.caller.level c.args.attempt.now.caller.session c.args.attempt.now.caller.cmd) (λ (u : Unit {0}). taken (prepared (listed c.args.prepared.now) c.args.name.now c.args.types.now (row_tree c.args.statement.now.value))) c.in_err-hold_if_repeatable.ensures.step)

pub returns-in_err-hold_if_repeatable-clause-kept : goal.returns-in_err-hold_if_repeatable-clause-kept
returns-in_err-hold_if_repeatable-clause-kept c = kept_out _ _ (listed c.args.prepared.now) _ c.from_residual.ensures.1

pub returns-clause-is : goal.returns-clause-is
returns-clause-is c =
    goes (held_at c.args.attempt.now.caller.level c.args.attempt.now.caller.session c.args.attempt.now.caller.cmd) (λ (u : Unit {0}). taken (prepared (listed c.args.prepared.now) c.args.name.now c.args.types.now (row_tree c.args.statement.now.value))) c.in_ok-hold_if_repeatable.ensures.step
    (c.list.ensures.is (listed c.prepare-done.new.self) (prepared (listed c.args.prepared.now) c.args.name.now c.args.types.now (row_tree c.args.statement.now.value)) c.prepare-done.ensures.answer)

pub returns-clause-kept : goal.returns-clause-kept
returns-clause-kept c =
    c.list.ensures.kept (listed c.args.prepared.now) (listed c.prepare-done.new.self) (prepared (listed c.args.prepared.now) c.args.name.now c.args.types.now (row_tree c.args.statement.now.value)) c.prepare-done.ensures.answer c.prepare-done.ensures.kept
