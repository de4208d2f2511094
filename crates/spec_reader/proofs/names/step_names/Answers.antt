use Rattle.std.proofs.Common.{sym, ap, ◌∙◌, refl, subst}
use Rattle.std.proofs.lemmas.List.{take_all}
use Rattle.std.proofs.lemmas.Result.{err_from_is_err_and}
use Rattle.spec_reader.specs.Faults.{double_name, steps_of}
use Rattle.spec_reader.specs.Finds.{Found}
use Rattle.spec_reader.proofs.Firsts.{first_end}
use Rattle.spec_reader.proofs.NameLaws.{session_is_double, steps_are_double, session_is_new, session_noted}
use Rattle.spec_reader.proofs.names.step_names.Goals as goal

pub loop-i-init : goal.loop-i-init
loop-i-init c = record { noted = c.new-names.ensures; told = refl }

pub returns-then-is_session-clause-found : goal.returns-then-is_session-clause-found
returns-then-is_session-clause-found c =
    subst (Found c.double.result) c.loop-i.invariant.told
    (session_is_double c.args.sessions.now c.loop-i.i c.index-sessions-i.result c.loop-i-test.true (sym c.index-sessions-i.is) c.loop-i.names c.loop-i.invariant.noted
    c.as_bytes.result.now c.as_bytes.ensures c.is_session.result c.is_session.ensures c.index-sessions-i.result.steps refl c.if-is_session.true c.double.result c.double.ensures)

pub returns-in_err-add_steps-clause-found : goal.returns-in_err-add_steps-clause-found
returns-in_err-add_steps-clause-found c =
    let p = err_from_is_err_and c.from_residual.result c.from_residual.ensures.1 in
    rw (p.1, p.2) (subst (Found c.in_err-add_steps.field-0.0) c.loop-i.invariant.told
    (steps_are_double c.args.sessions.now c.loop-i.i c.index-sessions-i.result c.loop-i-test.true (sym c.index-sessions-i.is) c.loop-i.names c.loop-i.invariant.noted
    c.as_bytes.result.now c.as_bytes.ensures c.is_session.result c.is_session.ensures c.as_slice.result.now c.as_slice.ensures c.if-is_session.false c.in_err-add_steps.field-0.0 c.in_err-add_steps.ensures.found))

pub loop-i-preserved : goal.loop-i-preserved
loop-i-preserved c = record {
  noted = session_noted c.args.sessions.now c.loop-i.i c.index-sessions-i.result c.loop-i-test.true (sym c.index-sessions-i.is) c.loop-i.names c.loop-i.invariant.noted
      c.as_bytes.result.now c.as_bytes.ensures c.is_session.result c.is_session.ensures c.as_slice.result.now c.as_slice.ensures c.add_steps.new.names c.in_ok-add_steps.ensures.noted;
  told = session_is_new c.args.sessions.now c.loop-i.i c.index-sessions-i.result c.loop-i-test.true (sym c.index-sessions-i.is) c.loop-i.names c.loop-i.invariant.noted
      c.as_bytes.result.now c.as_bytes.ensures c.is_session.result c.is_session.ensures c.as_slice.result.now c.as_slice.ensures c.if-is_session.false c.in_ok-add_steps.ensures.found ∙ c.loop-i.invariant.told;
}

pub returns-clause-found : goal.returns-clause-found
returns-clause-found c = sym c.loop-i.invariant.told ∙ first_end double_name c.args.sessions.now c.loop-i.i c.loop-i-test.false

pub returns-clause-noted : goal.returns-clause-noted
returns-clause-noted c = c.loop-i.invariant.noted ∙ ap steps_of (take_all c.loop-i.i c.args.sessions.now c.loop-i-test.false)
