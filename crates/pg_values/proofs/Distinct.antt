-- Lists of numbers that differ.
use Rattle.std.proofs.Common.{◌≡◌, ℕ, ◌+◌, ◌<◌, ◌≤◌, ◌⊎◌, true, false, List, [], ◌∷◌, ◌++◌, length, take, set, nat_eq, inl, inr, refl, arith}
use Rattle.std.specs.List.{IsDistinct, list_any, AllByRecursion}
use Rattle.std.proofs.lemmas.Bool.{cases_Bool}
use Rattle.std.proofs.lemmas.Bool.Decides.{nat_tests}
use Rattle.std.proofs.lemmas.List.{length-append, length-take-le, take_more_set}
use Rattle.std.proofs.lemmas.Map.Steps.{length-le_from_distinct_below}
use Rattle.pg_values.specs.Numbers.{AreBelow65}

none_behind : (y x : ℕ) (ys : List ℕ) → nat_eq y x ≡ false → AllByRecursion (λ z. nat_eq y z ≡ false) ys → AllByRecursion (λ z. nat_eq y z ≡ false) (ys ++ x ∷ [])
none_behind y x [] e h = (e, tt)
none_behind y x (z ∷ zs) e h = (h.0, none_behind y x zs e h.1)

first_off : (x y : ℕ) (ys : List ℕ) → list_any (nat_eq x) (y ∷ ys) ≡ false → (nat_eq y x ≡ false) × (list_any (nat_eq x) ys ≡ false)
first_off x y ys h = elim (cases_Bool (nat_eq x y)) [
  | inl t ↦ let h' = rw t at h in cc
  | inr f ↦ let h' = rw f at h in (grind (arith, nat_tests), h')
]

-- a new number behind the others
pub distinct-behind : (xs : List ℕ) (x : ℕ) → IsDistinct nat_eq xs → list_any (nat_eq x) xs ≡ false → IsDistinct nat_eq (xs ++ x ∷ [])
unfolding IsDistinct
distinct-behind [] x d n = (tt, tt)
distinct-behind (y ∷ ys) x d n =
    let off = first_off x y ys n in
    (none_behind y x ys off.0 d.0, distinct-behind ys x d.1 off.1)

equal_below : (q x : ℕ) → nat_eq q x ≡ true → x < 65 → q < 65
equal_below q x e lt = grind (arith, nat_tests)

in_behind : (xs : List ℕ) (x q : ℕ) → list_any (nat_eq q) (xs ++ x ∷ []) ≡ true → (list_any (nat_eq q) xs ≡ true) ⊎ (nat_eq q x ≡ true)
in_behind [] x q t = elim (cases_Bool (nat_eq q x)) [ inl e ↦ inr e | inr f ↦ let t' = rw f at t in cc ]
in_behind (y ∷ ys) x q t = elim (cases_Bool (nat_eq q y)) [
  | inl e ↦ inl (rw e refl)
  | inr f ↦ let t' = rw f at t in rw f (in_behind ys x q t')
]

pub below-behind : (xs : List ℕ) (x : ℕ) → AreBelow65 xs → x < 65 → AreBelow65 (xs ++ x ∷ [])
below-behind xs x h lt q t = elim (in_behind xs x q t) [ inl e ↦ h q e | inr e ↦ equal_below q x e lt ]

-- one more number finds room
pub room_behind : (xs : List ℕ) (x : ℕ) → IsDistinct nat_eq xs → AreBelow65 xs → x < 65 → list_any (nat_eq x) xs ≡ false → length xs < 65
room_behind xs x d h lt n =
    let most = length-le_from_distinct_below (xs ++ x ∷ []) 65 (distinct-behind xs x d n) (below-behind xs x h lt) in
    omega (arith, most, length-append xs (x ∷ []))

pub distinct-none : IsDistinct nat_eq []
unfolding IsDistinct
distinct-none = tt

-- the number at the end of a list's places
pub placed-distinct : (places : List ℕ) (i x : ℕ) → i < length places → IsDistinct nat_eq (take i places) → list_any (nat_eq x) (take i places) ≡ false → IsDistinct nat_eq (take (i + 1) (set places i x))
placed-distinct places i x h d n = rw (take_more_set places i x h) (distinct-behind (take i places) x d n)

pub placed-below : (places : List ℕ) (i x : ℕ) → i < length places → AreBelow65 (take i places) → x < 65 → AreBelow65 (take (i + 1) (set places i x))
placed-below places i x h s lt = rw (take_more_set places i x h) (below-behind (take i places) x s lt)

pub room : (places : List ℕ) (i x : ℕ) → i ≤ length places → IsDistinct nat_eq (take i places) → AreBelow65 (take i places) → x < 65 → list_any (nat_eq x) (take i places) ≡ false → i < 65
room places i x h d s lt n = omega (arith, length-take-le i places h, room_behind (take i places) x d s lt n)
