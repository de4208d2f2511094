use Rattle.std.proofs.Common.{sym, ap, ◌∙◌, ◌++◌, ◌∷◌, [], map-id}
use Rattle.std.proofs.lemmas.Iterator.Adapters.{YieldsList-from_vec}
use Rattle.std.proofs.lemmas.Iterator.Consumers.{YieldsList-end}
use Rattle.spec_reader.specs.Specs.{markers_of}
use Rattle.spec_reader.proofs.SpecSteps.{markers_push}
use Rattle.spec_reader.proofs.read.markers_of.Goals as goal

pub loop-marker-init : goal.loop-marker-init
loop-marker-init c = c.new-markers.ensures.items

pub loop-marker-preserved : goal.loop-marker-preserved
loop-marker-preserved c =
    c.in_ok-push_marker.ensures ∙ (ap (λ z. z ++ markers_of (c.in-Some.marker ∷ [])) c.loop-marker.invariant ∙ markers_push c.loop-marker.yielded c.in-Some.marker)

pub returns : goal.returns
returns c =
    let k = c.into_iter-marker-iterator.ensures.into_iter_gives in
    let end = YieldsList-end (YieldsList-from_vec {s = c.into_iter-marker-iterator.result} c.args.written.items k.0 (k.1 ∙ c.args.written.ok.0)) c.loop-marker.yielded c.loop-marker.marker-iterator c.loop-marker.yielded_by c.next.result c.next.new.self c.in-None.is c.next.ensures.steps in
    c.loop-marker.invariant ∙ ap markers_of (sym (map-id c.loop-marker.yielded) ∙ end.0)
