use Rattle.std.proofs.Common.{ap, sym, ◌∙◌}
use Rattle.spec_reader.specs.Specs.{misfit}
use Rattle.spec_reader.proofs.SpecLaws.{judged, refused_as}
use Rattle.spec_reader.proofs.read.read_spec.Goals as goal

pub returns-in-Ok : goal.returns-in-Ok
returns-in-Ok c =
    judged c.args.text.now c.checked.result c.deref.result.now c.in-Ok.written (c.deref.ensures.value ∙ c.in_ok-tokens.ensures) c.in-Ok.ensures c.checked.ensures.found c.checked.ensures.same

pub returns : goal.returns
returns c =
    refused_as c.args.text.now c.deref.result.now c.in-Err.refused c.misfit.result (c.deref.ensures.value ∙ c.in_ok-tokens.ensures) c.in-Err.ensures
    (c.misfit.ensures ∙ ap (λ z. misfit c.args.text.now z c.in-Err.refused) (c.deref-in-Err.ensures.value ∙ sym c.deref.ensures.value))
