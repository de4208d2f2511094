use Rattle.std.proofs.Common.{sym, ap, ◌∙◌, ◌++◌, ◌∷◌, [], map, map-id, List}
use Rattle.std.proofs.lemmas.Iterator.Adapters.{YieldsList-from_vec}
use Rattle.std.proofs.lemmas.Iterator.Consumers.{YieldsList-end}
use Rattle.std.proofs.lemmas.List.{map_push}
use Rattle.spec_reader.specs.Specs.{uses_of}
use Rattle.spec_reader.specs.declared.spec.StepUse.{StepUse}
use Rattle.spec_reader.proofs.read.permutations_of.Goals as goal

pub loop-uses-init : goal.loop-uses-init
loop-uses-init c = c.new-permutations.ensures.items

pub loop-uses-preserved : goal.loop-uses-preserved
loop-uses-preserved c =
    c.in_ok-push.ensures.items ∙ (ap (λ z. z ++ c.from_vec.result ∷ []) c.loop-uses.invariant
    ∙ (ap (λ (u : List StepUse). map uses_of c.loop-uses.yielded ++ u ∷ []) (c.from_vec.ensures ∙ c.in_ok-uses_of.ensures ∙ ap uses_of c.into_vec.ensures) ∙ sym (map_push uses_of c.loop-uses.yielded c.in-Some.uses)))

pub returns : goal.returns
returns c =
    let k = c.into_iter-uses-iterator.ensures.into_iter_gives in
    let end = YieldsList-end (YieldsList-from_vec {s = c.into_iter-uses-iterator.result} c.args.written.items k.0 (k.1 ∙ c.args.written.ok.0)) c.loop-uses.yielded c.loop-uses.uses-iterator c.loop-uses.yielded_by c.next.result c.next.new.self c.in-None.is c.next.ensures.steps in
    c.from_vec-2.ensures ∙ c.loop-uses.invariant ∙ ap (map uses_of) (sym (map-id c.loop-uses.yielded) ∙ end.0)
