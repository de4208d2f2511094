use Rattle.std.proofs.Common.{◌++◌, ◌∷◌, [], ap, sym, ◌∙◌, List, ℕ, ◌≡◌, Option, Some, None, is_some, false, refl}
use Rattle.std.specs.Str.{bytes_eq}
use Rattle.spec_reader.specs.Faults.{session_of, shown}
use Rattle.indexmap.proofs.CallerLemmas.{insert_entry-new}
use Rattle.spec_reader.proofs.NameLaws.{shown_lookup, shown_push}
use Rattle.spec_reader.proofs.step_names.StepNames.add.Goals as goal

no_session : (o : Option ℕ) → is_some o ≡ false → o ≡ None
no_session None h = refl
no_session (Some n) h = cc

pub returns-clause-names : goal.returns-clause-names
returns-clause-names c =
    let absent = shown_lookup (bytes_eq c.args.name.now) c.self.inside.sessions.entries ∙ (ap (λ z. session_of z c.args.name.now) c.self.view_is
    ∙ (sym c.session_of.ensures ∙ no_session c.session_of.result (sym c.is_some.ensures ∙ c.if-is_some.false))) in
    ap shown (c.in_ok-insert.ensures.entries ∙ insert_entry-new _ c.self.inside.sessions c.args.name c.args.session absent)
    ∙ (shown_push c.self.inside.sessions.entries (c.args.name, c.args.session) ∙ ap (λ (z : List (List ℕ × ℕ)). z ++ (c.args.name.now, c.args.session) ∷ []) c.self.view_is)
