use Rattle.std.proofs.Common.{◌≡◌, ◌∙◌, ◌++◌, ◌∷◌, [], true, false, ap, sym, subst, refl, inl, inr, append-nil, List, filter}
use Rattle.std.proofs.lemmas.Bool.{cases_Bool}
use Rattle.std.proofs.lemmas.List.Elements.{filter-append}
use Rattle.std.proofs.lemmas.List.Quantifiers.{all_pairs_push}
use Rattle.history.specs.declared.catalogue.Entry.{Entry}
use Rattle.history.specs.Catalogue.{entries_added}
use Rattle.history.specs.History.{catalogue_events}
use Rattle.history.specs.Presence.{entries_present, is_present}
use Rattle.row_router.specs.Siblings.{AreSiblings, CanStandTogether}
use Rattle.part_catalog.proofs.laws.siblings_are_kept.Goals as goal

pub returns : goal.returns
returns c h s e siblings beside =
    let p = is_present h s in
    let added = entries_added (catalogue_events h) in
    let joined : filter p (added ++ e ∷ []) ≡ entries_present h s ++ filter p (e ∷ []) = filter-append p added (e ∷ []) in
    elim (cases_Bool (p e)) [
      | inl y ↦
          let one : filter p (e ∷ []) ≡ e ∷ [] = rw y refl in
          subst AreSiblings (sym (joined ∙ ap (λ (l : List Entry). entries_present h s ++ l) one)) (all_pairs_push CanStandTogether (entries_present h s) e siblings beside)
      | inr n ↦
          let none : filter p (e ∷ []) ≡ [] = rw n refl in
          subst AreSiblings (sym (joined ∙ ap (λ (l : List Entry). entries_present h s ++ l) none ∙ append-nil (entries_present h s))) siblings
    ]
