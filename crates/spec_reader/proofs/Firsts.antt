-- The first fault of a list, and of several judges.
use Rattle.std.proofs.Common.{Result, ◌≡◌, ◌<◌, ◌≤◌, ℕ, suc, ◌+◌, Bool, true, false, ◌||◌, subst, List, [], ◌∷◌, ◌++◌, length, take, drop, get_or, Option, Some, None, refl, sym, ◌∙◌, ap, add-one, drop-cons}
use Rattle.std.proofs.lemmas.List.{drop_all, take_more}
use Rattle.std.specs.List.{list_any}
use Rattle.std.specs.Option.{option_or}
use Rattle.spec_reader.specs.Faults.{first_behind, told}
use Rattle.spec_reader.specs.Finds.{Found, Finds}
use Rattle.spec_reader.specs.declared.fault.SpecFault.{SpecFault}
use Rattle.spec_reader.specs.declared.fault.SpecFault.TheVariants as faults

-- one judge after another
pub found_first : (f : SpecFault) (a b : Option SpecFault) → Found f a → Found f (option_or a b)
found_first (faults.BadToken line) a b h = absurd h
found_first (faults.Limit x) a b h = ap (λ z. option_or z b) h
found_first (faults.DoubleName x) a b h = ap (λ z. option_or z b) h
found_first faults.NoPermutation a b h = ap (λ z. option_or z b) h
found_first (faults.UnknownStep x) a b h = ap (λ z. option_or z b) h
found_first (faults.UnknownMarker x) a b h = ap (λ z. option_or z b) h
found_first faults.NoMemory a b h = tt

module _ {A : Type 0} (f : List A → A → Option SpecFault) (xs : List A) (i : ℕ) where
  pub first_at : (x : A) → i < length xs → get_or xs i x ≡ x → first_behind f (take i xs) (drop i xs) ≡ option_or (f (take i xs) x) (first_behind f (take (i + 1) xs) (drop (i + 1) xs))
  first_at x h e =
      ap (λ z. first_behind f (take i xs) z) (drop-cons xs i x h ∙ ap (λ (y : A). y ∷ drop (suc i) xs) e)
      ∙ ap (λ z. option_or (f (take i xs) x) (first_behind f z (drop (suc i) xs))) (sym (take_more xs i x h ∙ ap (λ (y : A). take i xs ++ y ∷ []) e))
      ∙ rw add-one refl

  pub first_end : length xs ≤ i → first_behind f (take i xs) (drop i xs) ≡ None
  first_end h = ap (λ z. first_behind f (take i xs) z) (drop_all i xs h)

  pub first_found : (x : A) (e : SpecFault) → i < length xs → get_or xs i x ≡ x → Found e (f (take i xs) x) → Found e (first_behind f (take i xs) (drop i xs))
  first_found x e h k w = subst (Found e) (sym (first_at x h k)) (found_first e (f (take i xs) x) (first_behind f (take (i + 1) xs) (drop (i + 1) xs)) w)

  pub first_passes : (x : A) → i < length xs → get_or xs i x ≡ x → f (take i xs) x ≡ None → first_behind f (take (i + 1) xs) (drop (i + 1) xs) ≡ first_behind f (take i xs) (drop i xs)
  first_passes x h k w = sym (first_at x h k ∙ ap (λ z. option_or z (first_behind f (take (i + 1) xs) (drop (i + 1) xs))) w)

-- what is told or not
pub not_told : (b : Bool) (e : SpecFault) → told b e ≡ None → b ≡ false
not_told true e h = cc
not_told false e h = refl

pub nothing_told : (b : Bool) (e : SpecFault) → b ≡ false → told b e ≡ None
nothing_told true e h = cc
nothing_told false e h = refl

pub is_told : (b : Bool) (e : SpecFault) → b ≡ true → told b e ≡ Some e
is_told true e h = refl
is_told false e h = cc

-- whether one of the rest passes
module _ {A : Type 0} (p : A → Bool) (xs : List A) (i : ℕ) where
  pub any_at : (x : A) → i < length xs → get_or xs i x ≡ x → list_any p (drop i xs) ≡ (p x || list_any p (drop (i + 1) xs))
  any_at x h e = ap (list_any p) (drop-cons xs i x h ∙ ap (λ (y : A). y ∷ drop (suc i) xs) e) ∙ rw add-one refl

  pub any_found : (x : A) → i < length xs → get_or xs i x ≡ x → p x ≡ true → list_any p (drop i xs) ≡ true
  any_found x h e k = any_at x h e ∙ ap (λ b. b || list_any p (drop (i + 1) xs)) k

  pub any_passes : (x : A) → i < length xs → get_or xs i x ≡ x → p x ≡ false → list_any p (drop (i + 1) xs) ≡ list_any p (drop i xs)
  any_passes x h e k = sym (any_at x h e ∙ ap (λ b. b || list_any p (drop (i + 1) xs)) k)

  pub any_end : length xs ≤ i → list_any p (drop i xs) ≡ false
  any_end h = ap (list_any p) (drop_all i xs h)

-- a judge behind one that found nothing
pub finds_after : {X : Type 0} (r : Result X SpecFault) (a b : Option SpecFault) → a ≡ None → Finds r b → Finds r (option_or a b)
finds_after r a b h k = subst (Finds r) (sym (ap (λ z. option_or z b) h)) k
