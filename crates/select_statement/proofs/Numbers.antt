-- Different numbers that are small are few.
use Rattle.std.proofs.Common.{◌≡◌, ◌≢◌, ℕ, zero, suc, ◌+◌, ◌≤◌, ◌<◌, ◌==◌, not, arith, Bool, true, false, List, [], ◌∷◌, inl, inr, refl, ap, sym, ◌∙◌, filter, length, get_or}
use Rattle.std.specs.List.{All, AllPairs}
use Rattle.std.proofs.lemmas.Bool.{cases_Bool}
use Rattle.std.proofs.lemmas.Bool.Decides.{nat_tests}
use Rattle.std.proofs.lemmas.List.Elements.{All-head, All-tail, All-filter, filter_passes}
use Rattle.std.proofs.lemmas.List.Kept.{AllPairs-filter}
use Rattle.bound_forms.proofs.PlainOrder.{pairs-head, pairs-tail}

abbrev Differ : ℕ → ℕ → Type 0
Differ a b = a ≢ b

is_other : ℕ → ℕ → Bool
is_other k x = not (x == k)

-- others all stay
whole : (k : ℕ) (xs : List ℕ) → All (λ x. x ≢ k) xs → length (filter (is_other k) xs) ≡ length xs
unfolding is_other
whole k [] all = refl
whole k (x ∷ xs) all =
    let here : x ≢ k = All-head (λ y. y ≢ k) x xs all in
    let away : (x == k) ≡ false = grind (arith, nat_tests) in
    let rest = whole k xs (All-tail (λ y. y ≢ k) x xs all) in
    rw away (ap suc rest)

-- one at most goes
one_less : (k : ℕ) (xs : List ℕ) → AllPairs Differ xs → length xs ≤ length (filter (is_other k) xs) + 1
unfolding is_other
one_less k [] two = omega arith
one_less k (x ∷ xs) two = elim (cases_Bool (x == k)) [
  | inl y ↦
      let at : x ≡ k = grind (arith, nat_tests, y) in
      let first = pairs-head Differ x xs two in
      let rest = whole k xs (λ i d lt same. first i d lt (at ∙ sym same)) in
      rw y (omega (arith, rest))
  | inr n ↦ let rest = one_less k xs (pairs-tail Differ x xs two) in rw n (omega (arith, rest))
]

smaller : (x n : ℕ) → is_other n x ≡ true → x < suc n → x < n
unfolding is_other
smaller x n other lt = elim (cases_Bool (x == n)) [
  | inl y ↦ let both : false ≡ true = rw y at other in absurd (cc)
  | inr away ↦ let apart : x ≢ n = grind (arith, nat_tests, away) in omega (arith, apart, lt)
]

pub few_numbers : (n : ℕ) (xs : List ℕ) → AllPairs Differ xs → All (λ x. x < n) xs → length xs ≤ n
few_numbers zero [] two all = omega arith
few_numbers zero (x ∷ xs) two all = let none = All-head (λ y. y < zero) x xs all in absurd (omega (arith, none))
few_numbers (suc n) xs two all =
    let left : All (λ x. x < n) (filter (is_other n) xs) = λ k d lt.
    smaller (get_or (filter (is_other n) xs) k d) n (filter_passes (is_other n) xs k d lt) (All-filter (is_other n) (λ x. x < suc n) xs all k d lt) in
    let rest = few_numbers n (filter (is_other n) xs) (AllPairs-filter Differ (is_other n) xs two) left in
    let less = one_less n xs two in
    omega (arith, rest, less)
