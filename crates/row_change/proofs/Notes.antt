-- What is noted of leaves.
use Rattle.std.proofs.Common.{◌≡◌, ℕ, zero, suc, ◌<◌, ◌≤◌, ◌==◌, arith, refl, ap, sym, subst, ◌∙◌, take, if◌then◌else◌, Bool, true, false, List, [], ◌∷◌, ◌++◌, Option, Some, None, get_or, length, set}
use Rattle.std.specs.Option.{option_or}
use Rattle.std.proofs.lemmas.Bool.Decides.{nat_tests}
use Rattle.std.specs.Prelude.{replicate}
use Rattle.std.proofs.lemmas.List.{get_or-set_same, get_or-set_other, take_all}

-- room alone notes nothing
none_behind : {V : Type 0} (xs : List (Option V)) (m k : ℕ) → get_or (xs ++ replicate m None) k None ≡ get_or xs k None
none_behind [] zero k = refl
none_behind [] (suc m) zero = refl
none_behind [] (suc m) (suc k) = none_behind [] m k
none_behind (x ∷ xs) m zero = refl
none_behind (x ∷ xs) m (suc k) = none_behind xs m k

pub none_more : {V : Type 0} (old new : List (Option V)) (n m k : ℕ) → length old ≤ n → new ≡ take n old ++ replicate m None → get_or new k None ≡ get_or old k None
none_more {V} old new n m k long is = ap (λ (xs : List (Option V)). get_or xs k None) (is ∙ ap (λ (xs : List (Option V)). xs ++ replicate m None) (take_all n old long)) ∙ none_behind old m k

or_none : {V : Type 0} (o : Option V) → option_or o None ≡ o
or_none None = refl
or_none (Some x) = refl

-- the first note of a key
pub first_noted : {V : Type 0} (key q : ℕ) (value : V) (old : List (Option V)) → key < length old → get_or old key None ≡ None → get_or (set old key (Some value)) q None ≡ option_or (get_or old q None) (if key == q then Some value else None)
first_noted key q value old within none = by_test (key == q) refl
  where
    by_test : (b : Bool) → (key == q) ≡ b → get_or (set old key (Some value)) q None ≡ option_or (get_or old q None) (if b then Some value else None)
    by_test true is =
        let same : key ≡ q = grind (arith, nat_tests, is) in
        subst (λ k. get_or (set old key (Some value)) k None ≡ option_or (get_or old k None) (Some value)) same (get_or-set_same old key (Some value) None within ∙ (rw (none) refl))
    by_test false is =
        get_or-set_other old key q (Some value) None (λ same. absurd (let no : (key == q) ≡ true = grind (arith, nat_tests, same) in cc)) ∙ sym (or_none (get_or old q None))

-- a further one changes nothing
pub still_noted : {V : Type 0} (key q : ℕ) (value other : V) (old : List (Option V)) → get_or old key None ≡ Some other → get_or old q None ≡ option_or (get_or old q None) (if key == q then Some value else None)
still_noted key q value other old some = by_test (key == q) refl
  where
    by_test : (b : Bool) → (key == q) ≡ b → get_or old q None ≡ option_or (get_or old q None) (if b then Some value else None)
    by_test true is =
        let same : key ≡ q = grind (arith, nat_tests, is) in
        subst (λ k. get_or old k None ≡ option_or (get_or old k None) (Some value)) same (rw some refl)
    by_test false is = sym (or_none (get_or old q None))
