-- One item more of a list that is filtered.
use Rattle.std.proofs.Common.{◌≡◌, ◌<◌, ◌≤◌, ℕ, ◌+◌, Bool, true, false, if◌then◌else◌, filter, List, [], ◌∷◌, ◌++◌, length, take, get_or, refl, sym, ◌∙◌, ap}
use Rattle.std.proofs.lemmas.List.{take_more, take_all}
use Rattle.std.proofs.lemmas.List.Elements.{filter-append}

module _ {A : Type 0} (p : A → Bool) (xs : List A) (i : ℕ) where
  one_item : (x : A) → filter p (x ∷ []) ≡ (if p x then x ∷ [] else [])
  one_item x = go (p x) refl
    where
      go : (b : Bool) → p x ≡ b → filter p (x ∷ []) ≡ (if p x then x ∷ [] else [])
      go true e = rw e refl
      go false e = rw e refl

  pub filter_more : (x : A) → i < length xs → get_or xs i x ≡ x → filter p (take i xs) ++ (if p x then x ∷ [] else []) ≡ filter p (take (i + 1) xs)
  filter_more x h e =
      ap (λ z. filter p (take i xs) ++ z) (sym (one_item x))
      ∙ (sym (filter-append p (take i xs) (x ∷ []))
      ∙ ap (filter p) (sym (take_more xs i x h ∙ ap (λ (y : A). take i xs ++ y ∷ []) e)))

  pub filter_end : length xs ≤ i → filter p (take i xs) ≡ filter p xs
  filter_end h = ap (filter p) (take_all i xs h)
