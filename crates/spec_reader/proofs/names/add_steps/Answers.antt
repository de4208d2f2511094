use Rattle.std.proofs.Common.{◌++◌, sym, ap, ◌∙◌, refl, subst}
use Rattle.std.proofs.lemmas.List.{append-nil, take_all}
use Rattle.spec_reader.specs.Faults.{double_step, numbered}
use Rattle.spec_reader.specs.Finds.{Found}
use Rattle.spec_reader.proofs.Firsts.{first_end}
use Rattle.spec_reader.proofs.NameLaws.{step_is_double, step_is_new, step_noted}
use Rattle.spec_reader.proofs.names.add_steps.Goals as goal

pub loop-i-init : goal.loop-i-init
loop-i-init c = record { noted = sym (append-nil c.args.names.now); told = refl }

pub returns-then-not-branch-clause-found : goal.returns-then-not-branch-clause-found
returns-then-not-branch-clause-found c =
    subst (Found c.double.result) c.loop-i.invariant.told
    (step_is_double c.args.names.now c.loop-i.names c.args.session c.args.steps.now c.loop-i.i c.index-steps-i.result c.loop-i-test.true (sym c.index-steps-i.is) c.loop-i.invariant.noted
    c.as_bytes.result.now c.as_bytes.ensures c.in_ok-add.field-0 c.in_ok-add.ensures.added c.if-not-branch.true c.double.result c.double.ensures)

pub loop-i-preserved : goal.loop-i-preserved
loop-i-preserved c = record {
  noted = step_noted c.args.names.now c.loop-i.names c.args.session c.args.steps.now c.loop-i.i c.index-steps-i.result c.loop-i-test.true (sym c.index-steps-i.is) c.loop-i.invariant.noted
      c.as_bytes.result.now c.as_bytes.ensures c.in_ok-add.field-0 c.in_ok-add.ensures.added c.add.new.self c.in_ok-add.ensures.names c.if-not-branch.false;
  told = step_is_new c.args.names.now c.loop-i.names c.args.session c.args.steps.now c.loop-i.i c.index-steps-i.result c.loop-i-test.true (sym c.index-steps-i.is) c.loop-i.invariant.noted
      c.as_bytes.result.now c.as_bytes.ensures c.in_ok-add.field-0 c.in_ok-add.ensures.added c.if-not-branch.false ∙ c.loop-i.invariant.told;
}

pub returns-clause-found : goal.returns-clause-found
returns-clause-found c = sym c.loop-i.invariant.told ∙ first_end (double_step c.args.names.now c.args.session) c.args.steps.now c.loop-i.i c.loop-i-test.false

pub returns-clause-noted : goal.returns-clause-noted
returns-clause-noted c = c.loop-i.invariant.noted ∙ ap (λ z. c.args.names.now ++ numbered c.args.session z) (take_all c.loop-i.i c.args.steps.now c.loop-i-test.false)
