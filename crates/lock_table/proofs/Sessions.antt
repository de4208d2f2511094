-- The sessions that pass a test, in ascending order.
use Rattle.std.proofs.Common.{◌≡◌, ℕ, zero, suc, ◌<◌, Bool, true, if◌then◌else◌, List, [], ◌∷◌, ◌++◌, Some, slice_get, inl, inr, refl, sym, ap, ◌∙◌, subst, arith}
use Rattle.std.specs.List.{flat_map}
use Rattle.std.proofs.lemmas.Grind.{flat_map-append}
use Rattle.std.proofs.lemmas.Bool.{cases_lt, cases_Bool}
use Rattle.pg_values.specs.Sets.{has, sessions, sessions_below}
use Rattle.pg_values.specs.declared.session_set.SessionSet.{SessionSet}
use Rattle.lock_table.specs.Asked.{those_below, those}

-- what comes first stays first
pub first_stays : {X : Type 0} (xs ys : List X) (r : X) → slice_get xs 0 ≡ Some r → slice_get (xs ++ ys) 0 ≡ Some r
first_stays [] ys r e = absurd (cc)
first_stays (x ∷ xs) ys r e = e

none_below : (n : ℕ) (p : ℕ → Bool) (f : ℕ → List (List ℕ)) → ((y : ℕ) → y < n → p y ≡ true → f y ≡ []) → flat_map f (those_below n p) ≡ []
none_below zero p f none = refl
none_below (suc n) p f none =
    let rest = none_below n p f (λ y lt t. none y (omega arith) t) in
    elim (cases_Bool (p n)) [
      | inl t ↦ let last = none n (omega arith) t in rw (t, flat_map-append f (those_below n p) (n ∷ []), rest, last) refl
      | inr off ↦ rw (off, flat_map-append f (those_below n p) [], rest) refl
    ]

-- what comes of each that passes is empty: so is all
pub none_of : (p : ℕ → Bool) (f : ℕ → List (List ℕ)) → ((y : ℕ) → p y ≡ true → f y ≡ []) → flat_map f (those p) ≡ []
unfolding those
none_of p f none = none_below 128 p f (λ y lt t. none y t)

first_below : (n y : ℕ) (p : ℕ → Bool) (f : ℕ → List (List ℕ)) (r : List ℕ) → y < n → p y ≡ true → slice_get (f y) 0 ≡ Some r → ((z : ℕ) → z < y → p z ≡ true → f z ≡ []) → slice_get (flat_map f (those_below n p)) 0 ≡ Some r
first_below zero y p f r lt t e none = absurd (omega arith)
first_below (suc n) y p f r lt t e none =
    elim (cases_lt y n) [
      | inl low ↦
          let last = if p n then n ∷ [] else [] in
          rw (flat_map-append f (those_below n p) last) (first_stays (flat_map f (those_below n p)) (flat_map f last) r (first_below n y p f r low t e none))
      | inr ge ↦
          let same : y ≡ n = omega arith in
          let t' : p n ≡ true = ap p (sym same) ∙ t in
          let e' : slice_get (f n) 0 ≡ Some r = subst (λ k. slice_get (f k) 0 ≡ Some r) same e in
          let rest = none_below n p f (λ z lz tz. none z (omega arith) tz) in
          rw (t', flat_map-append f (those_below n p) (n ∷ []), rest) (first_stays (f n) [] r e')
    ]

-- what comes of the least that passes and gives something stands first
pub first_of : (p : ℕ → Bool) (f : ℕ → List (List ℕ)) (y : ℕ) (r : List ℕ) → y < 128 → p y ≡ true → slice_get (f y) 0 ≡ Some r → ((z : ℕ) → z < y → p z ≡ true → f z ≡ []) → slice_get (flat_map f (those p)) 0 ≡ Some r
unfolding those
first_of p f y r lt t e none = first_below 128 y p f r lt t e none

same_below : (n : ℕ) (set : SessionSet) (p : ℕ → Bool) → ((y : ℕ) → has set y ≡ p y) → sessions_below n set ≡ those_below n p
same_below zero set p same = refl
same_below (suc n) set p same = rw (same_below n set p same, same n) refl

-- the sessions of a set are those that pass its test
pub sessions_are : (set : SessionSet) (p : ℕ → Bool) → ((y : ℕ) → has set y ≡ p y) → sessions set ≡ those p
unfolding those sessions
sessions_are set p same = same_below 128 set p same

-- ---- where all is empty, each part is

pub none_first : {X : Type 0} (xs ys : List X) → xs ++ ys ≡ [] → xs ≡ []
none_first [] ys e = refl
none_first (x ∷ xs) ys e = absurd (cc)

pub none_last : {X : Type 0} (xs ys : List X) → xs ++ ys ≡ [] → ys ≡ []
none_last [] ys e = e
none_last (x ∷ xs) ys e = absurd (cc)

each_below : (n y : ℕ) (p : ℕ → Bool) (f : ℕ → List (List ℕ)) → y < n → p y ≡ true → flat_map f (those_below n p) ≡ [] → f y ≡ []
each_below zero y p f lt t e = absurd (omega (arith, lt))
each_below (suc n) y p f lt t e =
    let last = if p n then n ∷ [] else [] in
    let e' : flat_map f (those_below n p) ++ flat_map f last ≡ [] = sym (flat_map-append f (those_below n p) last) ∙ e in
    elim (cases_lt y n) [
      | inl low ↦ each_below n y p f low t (none_first (flat_map f (those_below n p)) (flat_map f last) e')
      | inr ge ↦
          let same : y ≡ n = omega (arith, lt, ge) in
          let t' : p n ≡ true = ap p (sym same) ∙ t in
          let none = none_last (flat_map f (those_below n p)) (flat_map f last) e' in
          let none' : f n ++ [] ≡ [] = rw t' at none in
          ap f same ∙ none_first (f n) [] none'
    ]

pub none_each : (p : ℕ → Bool) (f : ℕ → List (List ℕ)) (y : ℕ) → y < 128 → p y ≡ true → flat_map f (those p) ≡ [] → f y ≡ []
unfolding those
none_each p f y lt t e = each_below 128 y p f lt t e
