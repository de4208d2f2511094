use Rattle.lock_table.specs.declared.asked.Asked.TheVariants.{Deadlock}
use Rattle.std.proofs.Common.{subst, Some, Ok}
use Rattle.history.specs.declared.wait.Wanted.TheVariants.{Others}
use Rattle.statement_steps.specs.Asks.{waited}
use Rattle.statement_steps.specs.declared.rest.Rest.TheVariants.{Rows}
use Rattle.statement_steps.proofs.Parts.{HasAsked, has_asked, granted_step, waiting_part, closing_step, asked_and_out}
use Rattle.statement_steps.proofs.Steps.{as_part, handed_on}
use Rattle.statement_steps.proofs.locking.wait_for_row.Goals as goal

pub returns-in-Granted-clause-part : goal.returns-in-Granted-clause-part
returns-in-Granted-clause-part c =
    as_part (λ (u : Unit {0}). u) (Ok tt) c.args.stores.now c.wait_on-answer.new.self c.args.attempt.now.caller c.args.attempt.now.caller.cmd (waited c.args.attempt.now.names.now c.args.attempt.now.caller.session c.args.what (Some (Rows c.args.rest)))
    (granted_step c.args.attempt.now.names.now c.args.stores.now c.wait_on-answer.new.self c.args.attempt.now.caller (Others c.args.what) (Some (Rows c.args.rest)) c.requires.may
    (subst (HasAsked c.args.stores.now c.wait_on-answer.new.self c.args.attempt.now.caller (Others c.args.what)) c.in-Granted.is
    (has_asked c.args.stores.now c.wait_on-answer.new.self c.args.attempt.now.caller (Others c.args.what) c.wait_on-answer.result c.requires.may c.wait_on-answer.ensures.good
    c.wait_on-answer.ensures.answer c.answer_is_told.ensures.view c.answer_is_told.ensures.history c.wait_on-answer.ensures.waits c.wait_on-answer.ensures.others c.wait_on-answer.ensures.size c.wait_on-answer.ensures.rest)))

pub returns-in-Waits-clause-part : goal.returns-in-Waits-clause-part
returns-in-Waits-clause-part c =
    waiting_part c.args.attempt.now.names.now c.args.stores.now c.wait_on-answer.new.self c.args.attempt.now.caller (Others c.args.what) (Some (Rows c.args.rest)) c.in-Waits.behind c.requires.may
    (subst (HasAsked c.args.stores.now c.wait_on-answer.new.self c.args.attempt.now.caller (Others c.args.what)) c.in-Waits.is
    (has_asked c.args.stores.now c.wait_on-answer.new.self c.args.attempt.now.caller (Others c.args.what) c.wait_on-answer.result c.requires.may c.wait_on-answer.ensures.good
    c.wait_on-answer.ensures.answer c.answer_is_told.ensures.view c.answer_is_told.ensures.history c.wait_on-answer.ensures.waits c.wait_on-answer.ensures.others c.wait_on-answer.ensures.size c.wait_on-answer.ensures.rest))

pub returns-in_ok-deadlock_of-in-Deadlock-clause-part : goal.returns-in_ok-deadlock_of-in-Deadlock-clause-part
returns-in_ok-deadlock_of-in-Deadlock-clause-part c =
    as_part _ _ _ _ _ _ _
    (closing_step c.args.attempt.now.names.now c.args.stores.now c.wait_on-answer.new.self c.args.attempt.now.caller (Others c.args.what) (Some (Rows c.args.rest)) c.in-Deadlock.cycle c.in_ok-deadlock_of-in-Deadlock.field-0 c.in_ok-deadlock_of-in-Deadlock.ensures c.requires.may
    (subst (HasAsked c.args.stores.now c.wait_on-answer.new.self c.args.attempt.now.caller (Others c.args.what)) c.in-Deadlock.is
    (has_asked c.args.stores.now c.wait_on-answer.new.self c.args.attempt.now.caller (Others c.args.what) c.wait_on-answer.result c.requires.may c.wait_on-answer.ensures.good
    c.wait_on-answer.ensures.answer c.answer_is_told.ensures.view c.answer_is_told.ensures.history c.wait_on-answer.ensures.waits c.wait_on-answer.ensures.others c.wait_on-answer.ensures.size c.wait_on-answer.ensures.rest)))

pub returns-in_err-deadlock_of-in-Deadlock-clause-part : goal.returns-in_err-deadlock_of-in-Deadlock-clause-part
returns-in_err-deadlock_of-in-Deadlock-clause-part c =
    as_part _ _ _ _ _ _ _
    (handed_on c.from_residual.ensures.1 (asked_and_out (λ (u : Unit {0}). u) c.args.stores.now c.wait_on-answer.new.self c.args.attempt.now.caller (Others c.args.what) (Deadlock c.in-Deadlock.cycle) c.args.attempt.now.caller.cmd (waited c.args.attempt.now.names.now c.args.attempt.now.caller.session c.args.what (Some (Rows c.args.rest))) c.requires.may
    (subst (HasAsked c.args.stores.now c.wait_on-answer.new.self c.args.attempt.now.caller (Others c.args.what)) c.in-Deadlock.is
    (has_asked c.args.stores.now c.wait_on-answer.new.self c.args.attempt.now.caller (Others c.args.what) c.wait_on-answer.result c.requires.may c.wait_on-answer.ensures.good
    c.wait_on-answer.ensures.answer c.answer_is_told.ensures.view c.answer_is_told.ensures.history c.wait_on-answer.ensures.waits c.wait_on-answer.ensures.others c.wait_on-answer.ensures.size c.wait_on-answer.ensures.rest))))
