use Rattle.std.proofs.Common.{List, ℕ, subst}
use Rattle.expression_binder.specs.Firsts.{IsAnswerBy}
use Rattle.prepared_statements.specs.Prepared.{deallocated}
use Rattle.prepared_statements.specs.Kept.{listed}
use Rattle.statement_steps.specs.Asks.{held_at}
use Rattle.statement_steps.proofs.Steps.{goes, handed_on, may_go_on, stops}
use Rattle.statement_runs.specs.Attempted.{taken}
use Rattle.statement_runs.proofs.Whole.{kept_out}
use Rattle.statement_runs.proofs.prepared_attempts.attempt_deallocate.Goals as goal

pub list-requires : goal.list-requires
list-requires c = may_go_on _ _ _ _ _ _ c.requires c.in_ok-hold_if_repeatable.ensures.step

pub returns-in_err-hold_if_repeatable-clause-is : goal.returns-in_err-hold_if_repeatable-clause-is
returns-in_err-hold_if_repeatable-clause-is c =
    handed_on c.from_residual.ensures.1
    (stops (held_at c.args.attempt.now.caller.level c.args.attempt.now.caller.session c.args.attempt.now.caller.cmd) (λ (u : Unit {0}). taken (deallocated (listed c.args.prepared.now) c.args.name.now)) c.in_err-hold_if_repeatable.ensures.step)

pub returns-in_err-hold_if_repeatable-clause-kept : goal.returns-in_err-hold_if_repeatable-clause-kept
returns-in_err-hold_if_repeatable-clause-kept c = kept_out _ _ (listed c.args.prepared.now) _ c.from_residual.ensures.1

pub returns-clause-is : goal.returns-clause-is
returns-clause-is c =
    let answer = subst (λ (n : List ℕ). IsAnswerBy (λ (u : Unit {0}). listed c.deallocate-done.new.self) c.deallocate-done.result (deallocated (listed c.args.prepared.now) n)) c.as_bytes.ensures c.deallocate-done.ensures.answer in
    goes (held_at c.args.attempt.now.caller.level c.args.attempt.now.caller.session c.args.attempt.now.caller.cmd) (λ (u : Unit {0}). taken (deallocated (listed c.args.prepared.now) c.args.name.now)) c.in_ok-hold_if_repeatable.ensures.step
    (c.list.ensures.is (listed c.deallocate-done.new.self) (deallocated (listed c.args.prepared.now) c.args.name.now) answer)

pub returns-clause-kept : goal.returns-clause-kept
returns-clause-kept c =
    let answer = subst (λ (n : List ℕ). IsAnswerBy (λ (u : Unit {0}). listed c.deallocate-done.new.self) c.deallocate-done.result (deallocated (listed c.args.prepared.now) n)) c.as_bytes.ensures c.deallocate-done.ensures.answer in
    c.list.ensures.kept (listed c.args.prepared.now) (listed c.deallocate-done.new.self) (deallocated (listed c.args.prepared.now) c.args.name.now) answer c.deallocate-done.ensures.kept
