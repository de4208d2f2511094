use Rattle.lock_table.specs.declared.asked.Asked.TheVariants.{Deadlock}
use Rattle.std.proofs.Common.{subst}
use Rattle.history.specs.declared.wait.Wanted.TheVariants.{Others}
use Rattle.statement_steps.specs.Asks.{waited}
use Rattle.statement_steps.proofs.Parts.{HasAsked, has_asked, granted_step, waiting_step, closing_step, asked_and_out}
use Rattle.statement_steps.proofs.Steps.{handed_on}
use Rattle.statement_steps.proofs.locking.wait_for.Goals as goal

pub returns-in-Granted-clause-step : goal.returns-in-Granted-clause-step
returns-in-Granted-clause-step c =
    granted_step c.args.attempt.now.names.now c.args.stores.now c.wait_on-answer.new.self c.args.attempt.now.caller (Others c.args.what) c.args.rest c.requires.may
    (subst (HasAsked c.args.stores.now c.wait_on-answer.new.self c.args.attempt.now.caller (Others c.args.what)) c.in-Granted.is
    (has_asked c.args.stores.now c.wait_on-answer.new.self c.args.attempt.now.caller (Others c.args.what) c.wait_on-answer.result c.requires.may c.wait_on-answer.ensures.good
    c.wait_on-answer.ensures.answer c.answer_is_told.ensures.view c.answer_is_told.ensures.history c.wait_on-answer.ensures.waits c.wait_on-answer.ensures.others c.wait_on-answer.ensures.size c.wait_on-answer.ensures.rest))

pub returns-in-Waits-clause-step : goal.returns-in-Waits-clause-step
returns-in-Waits-clause-step c =
    waiting_step c.args.attempt.now.names.now c.args.stores.now c.wait_on-answer.new.self c.args.attempt.now.caller (Others c.args.what) c.args.rest c.in-Waits.behind c.requires.may c.requires.left
    (subst (HasAsked c.args.stores.now c.wait_on-answer.new.self c.args.attempt.now.caller (Others c.args.what)) c.in-Waits.is
    (has_asked c.args.stores.now c.wait_on-answer.new.self c.args.attempt.now.caller (Others c.args.what) c.wait_on-answer.result c.requires.may c.wait_on-answer.ensures.good
    c.wait_on-answer.ensures.answer c.answer_is_told.ensures.view c.answer_is_told.ensures.history c.wait_on-answer.ensures.waits c.wait_on-answer.ensures.others c.wait_on-answer.ensures.size c.wait_on-answer.ensures.rest))

pub returns-in_ok-deadlock_of-in-Deadlock-clause-step : goal.returns-in_ok-deadlock_of-in-Deadlock-clause-step
returns-in_ok-deadlock_of-in-Deadlock-clause-step c =
    closing_step c.args.attempt.now.names.now c.args.stores.now c.wait_on-answer.new.self c.args.attempt.now.caller (Others c.args.what) c.args.rest c.in-Deadlock.cycle c.in_ok-deadlock_of-in-Deadlock.field-0 c.in_ok-deadlock_of-in-Deadlock.ensures c.requires.may
    (subst (HasAsked c.args.stores.now c.wait_on-answer.new.self c.args.attempt.now.caller (Others c.args.what)) c.in-Deadlock.is
    (has_asked c.args.stores.now c.wait_on-answer.new.self c.args.attempt.now.caller (Others c.args.what) c.wait_on-answer.result c.requires.may c.wait_on-answer.ensures.good
    c.wait_on-answer.ensures.answer c.answer_is_told.ensures.view c.answer_is_told.ensures.history c.wait_on-answer.ensures.waits c.wait_on-answer.ensures.others c.wait_on-answer.ensures.size c.wait_on-answer.ensures.rest))

pub returns-in_err-deadlock_of-in-Deadlock-clause-step : goal.returns-in_err-deadlock_of-in-Deadlock-clause-step
returns-in_err-deadlock_of-in-Deadlock-clause-step c =
    handed_on c.from_residual.ensures.1 (asked_and_out (λ (u : Unit {0}). u) c.args.stores.now c.wait_on-answer.new.self c.args.attempt.now.caller (Others c.args.what) (Deadlock c.in-Deadlock.cycle) c.args.attempt.now.caller.cmd (waited c.args.attempt.now.names.now c.args.attempt.now.caller.session c.args.what c.args.rest) c.requires.may
    (subst (HasAsked c.args.stores.now c.wait_on-answer.new.self c.args.attempt.now.caller (Others c.args.what)) c.in-Deadlock.is
    (has_asked c.args.stores.now c.wait_on-answer.new.self c.args.attempt.now.caller (Others c.args.what) c.wait_on-answer.result c.requires.may c.wait_on-answer.ensures.good
    c.wait_on-answer.ensures.answer c.answer_is_told.ensures.view c.answer_is_told.ensures.history c.wait_on-answer.ensures.waits c.wait_on-answer.ensures.others c.wait_on-answer.ensures.size c.wait_on-answer.ensures.rest)))
