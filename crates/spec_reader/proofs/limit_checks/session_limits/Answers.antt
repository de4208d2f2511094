use Rattle.std.proofs.Common.{length, ap, sym, ◌∙◌, subst}
use Rattle.spec_reader.specs.declared.spec.SessionSpec.{SessionSpec}
use Rattle.std.proofs.lemmas.Result.{err_from_is_err_and}
use Rattle.spec_reader.specs.Faults.{session_limit}
use Rattle.spec_reader.specs.Finds.{Found}
use Rattle.spec_reader.proofs.Firsts.{first_end}
use Rattle.spec_reader.proofs.LimitLaws.{session_past, steps_past, within_limits, steps_more, few_steps}
use Rattle.spec_reader.proofs.limit_checks.session_limits.Goals as goal

pub returns-in_err-past : goal.returns-in_err-past
returns-in_err-past c =
    let p = err_from_is_err_and c.from_residual.result c.from_residual.ensures.1 in
    rw (p.1, p.2) (subst (Found c.in_err-past.field-0.0) c.loop-i.invariant.told
    (session_past c.args.sessions.now c.loop-i.i c.index-sessions-i.result c.loop-i-test.true (sym c.index-sessions-i.is) c.loop-i.steps c.loop-i.invariant.counted c.in_err-past.field-0.0 c.in_err-past.ensures))

pub overflow_sub-steps : goal.overflow_sub-steps
overflow_sub-steps c = c.loop-i.invariant.few

pub returns-in_err-past-2 : goal.returns-in_err-past-2
returns-in_err-past-2 c =
    let p = err_from_is_err_and c.from_residual-in_err-past-2.result c.from_residual-in_err-past-2.ensures.1 in
    rw (p.1, p.2) (subst (Found c.in_err-past-2.field-0.0) c.loop-i.invariant.told
    (steps_past c.args.sessions.now c.loop-i.i c.index-sessions-i.result c.loop-i-test.true (sym c.index-sessions-i.is) c.loop-i.steps c.loop-i.invariant.counted c.in_err-past-2.field-0.0 c.len-more.result (c.len-more.ensures ∙ ap (λ (s : SessionSpec). length s.steps) (sym c.index-sessions-i.is)) c.in_ok-past.ensures c.in_err-past-2.ensures))

pub loop-i-preserved : goal.loop-i-preserved
loop-i-preserved c = record {
  counted = steps_more c.args.sessions.now c.loop-i.i c.index-sessions-i.result c.loop-i-test.true (sym c.index-sessions-i.is) c.loop-i.steps c.loop-i.invariant.counted c.len-more.result (c.len-more.ensures ∙ ap (λ (s : SessionSpec). length s.steps) (sym c.index-sessions-i.is));
  few = few_steps c.loop-i.steps c.len-more.result c.in_ok-past-2.ensures c.loop-i.invariant.few;
  told = within_limits c.args.sessions.now c.loop-i.i c.index-sessions-i.result c.loop-i-test.true (sym c.index-sessions-i.is) c.loop-i.steps c.loop-i.invariant.counted c.len-more.result (c.len-more.ensures ∙ ap (λ (s : SessionSpec). length s.steps) (sym c.index-sessions-i.is)) c.in_ok-past.ensures c.in_ok-past-2.ensures ∙ c.loop-i.invariant.told;
}

pub returns : goal.returns
returns c = sym c.loop-i.invariant.told ∙ first_end session_limit c.args.sessions.now c.loop-i.i c.loop-i-test.false
