use Rattle.lock_table.specs.declared.asked.Asked.TheVariants.{Deadlock}
use Rattle.std.proofs.Common.{subst, None}
use Rattle.history.specs.declared.wait.Wanted.TheVariants.{Lock}
use Rattle.statement_steps.specs.Asks.{locked}
use Rattle.statement_steps.proofs.Parts.{HasAsked, has_asked, known_in, granted_step, waiting_step, closing_step, asked_and_out}
use Rattle.statement_steps.proofs.Steps.{handed_on}
use Rattle.statement_steps.proofs.locking.lock_table.Goals as goal

pub returns-in-Granted-clause-step : goal.returns-in-Granted-clause-step
returns-in-Granted-clause-step c =
    granted_step c.args.attempt.now.names.now c.args.stores.now c.request-answer.new.self c.args.attempt.now.caller (Lock c.args.table c.args.mode) None c.requires.may
    (subst (HasAsked c.args.stores.now c.request-answer.new.self c.args.attempt.now.caller (Lock c.args.table c.args.mode)) c.in-Granted.is
    (has_asked c.args.stores.now c.request-answer.new.self c.args.attempt.now.caller (Lock c.args.table c.args.mode) c.request-answer.result c.requires.may (λ h stands. c.request-answer.ensures.good h stands (known_in c.args.stores.now h c.args.attempt.now.caller.session c.args.table.number stands c.requires.there))
    c.request-answer.ensures.answer c.answer_is_told.ensures.view c.answer_is_told.ensures.history c.request-answer.ensures.waits c.request-answer.ensures.others c.request-answer.ensures.size c.request-answer.ensures.rest))

pub returns-in-Waits-clause-step : goal.returns-in-Waits-clause-step
returns-in-Waits-clause-step c =
    waiting_step c.args.attempt.now.names.now c.args.stores.now c.request-answer.new.self c.args.attempt.now.caller (Lock c.args.table c.args.mode) None c.in-Waits.behind c.requires.may tt
    (subst (HasAsked c.args.stores.now c.request-answer.new.self c.args.attempt.now.caller (Lock c.args.table c.args.mode)) c.in-Waits.is
    (has_asked c.args.stores.now c.request-answer.new.self c.args.attempt.now.caller (Lock c.args.table c.args.mode) c.request-answer.result c.requires.may (λ h stands. c.request-answer.ensures.good h stands (known_in c.args.stores.now h c.args.attempt.now.caller.session c.args.table.number stands c.requires.there))
    c.request-answer.ensures.answer c.answer_is_told.ensures.view c.answer_is_told.ensures.history c.request-answer.ensures.waits c.request-answer.ensures.others c.request-answer.ensures.size c.request-answer.ensures.rest))

pub returns-in_ok-deadlock_of-in-Deadlock-clause-step : goal.returns-in_ok-deadlock_of-in-Deadlock-clause-step
returns-in_ok-deadlock_of-in-Deadlock-clause-step c =
    closing_step c.args.attempt.now.names.now c.args.stores.now c.request-answer.new.self c.args.attempt.now.caller (Lock c.args.table c.args.mode) None c.in-Deadlock.cycle c.in_ok-deadlock_of-in-Deadlock.field-0 c.in_ok-deadlock_of-in-Deadlock.ensures c.requires.may
    (subst (HasAsked c.args.stores.now c.request-answer.new.self c.args.attempt.now.caller (Lock c.args.table c.args.mode)) c.in-Deadlock.is
    (has_asked c.args.stores.now c.request-answer.new.self c.args.attempt.now.caller (Lock c.args.table c.args.mode) c.request-answer.result c.requires.may (λ h stands. c.request-answer.ensures.good h stands (known_in c.args.stores.now h c.args.attempt.now.caller.session c.args.table.number stands c.requires.there))
    c.request-answer.ensures.answer c.answer_is_told.ensures.view c.answer_is_told.ensures.history c.request-answer.ensures.waits c.request-answer.ensures.others c.request-answer.ensures.size c.request-answer.ensures.rest))

pub returns-in_err-deadlock_of-in-Deadlock-clause-step : goal.returns-in_err-deadlock_of-in-Deadlock-clause-step
returns-in_err-deadlock_of-in-Deadlock-clause-step c =
    handed_on c.from_residual.ensures.1 (asked_and_out (λ (u : Unit {0}). u) c.args.stores.now c.request-answer.new.self c.args.attempt.now.caller (Lock c.args.table c.args.mode) (Deadlock c.in-Deadlock.cycle) c.args.attempt.now.caller.cmd (locked c.args.attempt.now.names.now c.args.attempt.now.caller.session c.args.table.number c.args.mode) c.requires.may
    (subst (HasAsked c.args.stores.now c.request-answer.new.self c.args.attempt.now.caller (Lock c.args.table c.args.mode)) c.in-Deadlock.is
    (has_asked c.args.stores.now c.request-answer.new.self c.args.attempt.now.caller (Lock c.args.table c.args.mode) c.request-answer.result c.requires.may (λ h stands. c.request-answer.ensures.good h stands (known_in c.args.stores.now h c.args.attempt.now.caller.session c.args.table.number stands c.requires.there))
    c.request-answer.ensures.answer c.answer_is_told.ensures.view c.answer_is_told.ensures.history c.request-answer.ensures.waits c.request-answer.ensures.others c.request-answer.ensures.size c.request-answer.ensures.rest)))
