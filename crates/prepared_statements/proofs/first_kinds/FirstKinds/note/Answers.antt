use Rattle.std.proofs.Common.{rules, ◌≡◌, ◌+◌, ◌-◌, ◌<◌, ◌≤◌, [], ◌∷◌, None, Some, inl, inr, arith, get_or, set, length, subst, ap, ◌∙◌}
use Rattle.std.proofs.lemmas.Grind.{common_steps, elements}
use Rattle.prepared_statements.specs.Firsts.{noted}
use Rattle.prepared_statements.specs.ParameterPlaces.{either as first_of}
use Rattle.prepared_statements.proofs.Firsts.{none_of_these, one_of_these}
use Rattle.prepared_statements.proofs.first_kinds.FirstKinds.note.Goals as goal

pub returns-then-n-eq0 : goal.returns-then-n-eq0
returns-then-n-eq0 c = none_of_these c.args.n c.args.kind c.args.self.now (inl (omega (arith, c.if-n-eq0.true)))

pub returns-then-place-len : goal.returns-then-place-len
returns-then-place-len c =
    let K = c.self.inside.kinds.items in
    let i = c.args.n - 1 in
    let within : i < length K = search rules in
    let number : c.args.n ≡ 1 + i = search rules in
    let read : c.index.result.now ≡ get_or K i None = grind (arith, common_steps, elements, within, c.index.ensures) in
    let made = c.either.ensures ∙ ap (λ k. first_of k (Some c.args.kind)) read in
    subst (λ ks. set K i c.either.result ≡ noted ks ((c.args.n, c.args.kind) ∷ [])) c.self.view_is (ap (set K i) made ∙ one_of_these c.args.n i c.args.kind K number within)

pub returns-else-place-len : goal.returns-else-place-len
returns-else-place-len c =
    let K = c.self.inside.kinds.items in
    let past : length K < c.args.n = search rules in
    subst (λ ks. ks ≡ noted ks ((c.args.n, c.args.kind) ∷ [])) c.self.view_is (none_of_these c.args.n c.args.kind K (inr past))
