use Rattle.std.proofs.Common.{ap, ◌∙◌, sym, subst}
use Rattle.std.specs.Prelude.{IfSome, ◌<◌, length}
use Rattle.script_program.specs.Steps.{number_of}
use Rattle.script_program.proofs.StepNumbers.{number_is_known}
use Rattle.script_program.proofs.step.Steps.number_of.Goals as goal

pub returns : goal.returns
returns c =
    let is = c.copied.ensures ∙ (c.get.ensures.value ∙ (c.self.invariant c.args.name ∙ ap (number_of c.args.name.now) c.self.view_is)) in
    record {
      is = is;
      known = subst (λ r. IfSome r (λ k. k < length c.args.self.now)) (sym is) (number_is_known c.args.name.now c.args.self.now);
    }
