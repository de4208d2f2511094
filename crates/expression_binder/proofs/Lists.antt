-- One step along a list.
use Rattle.std.proofs.Common.{ℕ, suc, ◌+◌, ◌<◌, ◌≡◌, List, [], ◌∷◌, ◌++◌, map, take, drop, length, get_or, sym, ap, ◌∙◌, add-one, drop-cons, take-suc}
use Rattle.std.proofs.lemmas.List.{map-append}

module _ {A B : Type 0} (f : A → B) (xs : List A) (i : ℕ) (x : A) (within : i < length xs) (is : x ≡ get_or xs i x) where
  -- what stands before the next one
  pub earlier_step : map f (take (i + 1) xs) ≡ map f (take i xs) ++ f x ∷ []
  earlier_step =
      ap (λ n. map f (take n xs)) (add-one i)
      ∙ (ap (map f) (take-suc xs i x within) ∙ (map-append f (take i xs) (get_or xs i x ∷ []) ∙ ap (λ y. map f (take i xs) ++ f y ∷ []) (sym is)))

  -- and what stands from here on
  pub later_step : map f (drop i xs) ≡ f x ∷ map f (drop (i + 1) xs)
  later_step = ap (map f) (drop-cons xs i x within) ∙ (ap (λ y. f y ∷ map f (drop (suc i) xs)) (sym is) ∙ ap (λ n. f x ∷ map f (drop n xs)) (sym (add-one i)))
