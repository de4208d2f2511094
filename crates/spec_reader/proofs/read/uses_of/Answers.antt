use Rattle.std.proofs.Common.{sym, ap, ◌∙◌, ◌++◌, ◌∷◌, [], map-id}
use Rattle.std.proofs.lemmas.Iterator.Adapters.{YieldsList-from_vec}
use Rattle.std.proofs.lemmas.Iterator.Consumers.{YieldsList-end}
use Rattle.std.proofs.lemmas.List.{map_push}
use Rattle.spec_reader.specs.Specs.{use_of, uses_of}
use Rattle.spec_reader.specs.declared.spec.StepUse.{StepUse}
use Rattle.spec_reader.proofs.read.uses_of.Goals as goal

pub loop-one-init : goal.loop-one-init
loop-one-init c = c.new-uses.ensures.items

pub loop-one-preserved : goal.loop-one-preserved
loop-one-preserved c =
    c.in_ok-push.ensures.items ∙ (ap (λ z. z ++ c.in_ok-use_of.field-0 ∷ []) c.loop-one.invariant
    ∙ (ap (λ (u : StepUse). uses_of c.loop-one.yielded ++ u ∷ []) c.in_ok-use_of.ensures ∙ sym (map_push use_of c.loop-one.yielded c.in-Some.one)))

pub returns : goal.returns
returns c =
    let k = c.into_iter-one-iterator.ensures.into_iter_gives in
    let end = YieldsList-end (YieldsList-from_vec {s = c.into_iter-one-iterator.result} c.args.written.items k.0 (k.1 ∙ c.args.written.ok.0)) c.loop-one.yielded c.loop-one.one-iterator c.loop-one.yielded_by c.next.result c.next.new.self c.in-None.is c.next.ensures.steps in
    c.loop-one.invariant ∙ ap uses_of (sym (map-id c.loop-one.yielded) ∙ end.0)
