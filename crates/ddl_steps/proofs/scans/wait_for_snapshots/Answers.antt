use Rattle.std.proofs.Common.{Result, subst}
use Rattle.pg_values.specs.Refusals.{IsAnswer}
use Rattle.pg_values.specs.declared.fault.Refusal.{Refusal}
use Rattle.pg_values.specs.declared.session_set.SessionSet.{SessionSet}
use Rattle.statement_steps.proofs.Steps.{handed_on}
use Rattle.ddl_steps.specs.Scans.{judged}
use Rattle.ddl_steps.proofs.Waiting.{judged_refused, judged_waits, none_watch}
use Rattle.ddl_steps.proofs.scans.wait_for_snapshots.Goals as goal

pub returns-in_err-others-clause-step : goal.returns-in_err-others-clause-step
returns-in_err-others-clause-step c = λ rows told.
    handed_on c.from_residual.ensures.1 (judged_refused c.args.attempt.now.names.now c.in_err-others.field-0.0 c.args.stores.now c.args.attempt.now.caller rows c.requires.may
    (λ h stands. subst (λ (j : Result SessionSet Refusal). IsAnswer j (judged h c.args.attempt.now.caller.session (rows h))) c.in_err-others.was (told h stands)))

pub returns-clause-step : goal.returns-clause-step
returns-clause-step c = λ rows told.
    judged_waits c.args.attempt.now.names.now c.wait_for.result c.args.stores.now c.wait_for.new.stores c.args.attempt.now.caller c.in_ok-others.others rows
    (λ h stands. subst (λ (j : Result SessionSet Refusal). IsAnswer j (judged h c.args.attempt.now.caller.session (rows h))) c.in_ok-others.was (told h stands)) c.wait_for.ensures.step

pub returns-clause-none : goal.returns-clause-none
returns-clause-none c =
    none_watch c.args.attempt.now.names.now c.wait_for.result c.args.stores.now c.wait_for.new.stores c.args.attempt.now.caller c.in_ok-others.others c.args.judged c.requires.may c.in_ok-others.was c.sessions_are_low.ensures c.wait_for.ensures.step
