use Rattle.std.proofs.Common.{Err, Ok, refl}
use Rattle.cond_logic.specs.Asked.{select_meant}
use Rattle.plan_tree.specs.Plans.{planned}
use Rattle.stores.specs.Events.{look_of}
use Rattle.select_statement.proofs.Steps.{answer_done, answer_refused, lent, read_for_it, told_for}
use Rattle.statement_steps.proofs.Parts.{out_here}
use Rattle.statement_steps.proofs.Steps.{handed_on}
use Rattle.select_statement.proofs.parts.answer_counted.Goals as goal

pub returns-clause-step : goal.returns-clause-step
returns-clause-step c =
    answer_done (record { answer = c.in_ok-answer.answer; trail = c.run_select.new.trail }) c.args.stores.now c.args.attempt.now.caller c.args.args.now (select_meant c.args.ask.now) (planned c.args.plan.now) c.args.snap.now c.requires.may c.requires.look
    (told_for (Ok c.in_ok-answer.answer) c.args.stores.now c.args.attempt.now.caller c.args.args.now (select_meant c.args.ask.now) (planned c.args.plan.now) c.args.snap.now _ _ refl c.in_ok-trail.ensures.0 c.in_ok-answer.ensures.answer)
    (read_for_it (Ok c.in_ok-answer.answer) _ c.args.stores.now c.args.attempt.now.caller c.args.args.now (select_meant c.args.ask.now) (planned c.args.plan.now) c.args.snap.now _ _ refl c.in_ok-trail.ensures.0 c.in_ok-answer.ensures.trail)

pub returns-clause-counts : goal.returns-clause-counts
returns-clause-counts c = λ h stands. c.in_ok-answer.ensures.counts h (look_of h c.args.attempt.now.caller.session c.args.attempt.now.caller.cmd) (lent c.args.stores.now c.args.attempt.now.caller c.args.snap.now h c.requires.look stands)

pub returns-in_err-answer-clause-step : goal.returns-in_err-answer-clause-step
returns-in_err-answer-clause-step c =
    handed_on c.from_residual-in_err-answer.ensures.1 (answer_refused c.in_err-answer.field-0.0 c.args.stores.now c.args.attempt.now.caller c.args.args.now (select_meant c.args.ask.now) (planned c.args.plan.now) c.args.snap.now c.requires.may c.requires.look
    (told_for (Err c.in_err-answer.field-0.0) c.args.stores.now c.args.attempt.now.caller c.args.args.now (select_meant c.args.ask.now) (planned c.args.plan.now) c.args.snap.now _ _ refl c.in_ok-trail.ensures.0 c.in_err-answer.ensures.answer))

pub returns-in_err-trail-clause-step : goal.returns-in_err-trail-clause-step
returns-in_err-trail-clause-step c = out_here c.from_residual.ensures.1
