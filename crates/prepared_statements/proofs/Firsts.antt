-- What the places of two lists give, one behind the other.
use Rattle.std.proofs.Common.{◌≡◌, ℕ, zero, suc, ◌+◌, ◌<◌, ◌≤◌, ◌==◌, Bool, true, false, List, [], ◌∷◌, ◌++◌, Option, Some, None, length, get_or, set, replicate, refl, sym, ap, ◌∙◌, if◌then◌else◌, arith, ◌⊎◌, inl, inr}
use Rattle.std.proofs.lemmas.Bool.Decides.{eqb_tells}
use Rattle.pg_values.specs.declared.value.Kind.{Kind}
use Rattle.prepared_statements.specs.Firsts.{noted_from, noted, none_known}
use Rattle.prepared_statements.specs.ParameterPlaces.{Place, either, kind_of}

step : (b : Bool) (k : Kind) (first all second : Option Kind) → all ≡ either first second → (if b then Some k else all) ≡ either (if b then Some k else first) second
step true k first all second h = refl
step false k first all second h = h

kind_in_both : (n : ℕ) (xs ys : List Place) → kind_of n (xs ++ ys) ≡ either (kind_of n xs) (kind_of n ys)
kind_in_both n [] ys = refl
kind_in_both n (p ∷ xs) ys = step (p.0 == n) p.1 (kind_of n xs) (kind_of n (xs ++ ys)) (kind_of n ys) (kind_in_both n xs ys)

either_none : (k : Option Kind) → either k None ≡ k
either_none None = refl
either_none (Some j) = refl

either_first : (a b c : Option Kind) → either a (either b c) ≡ either (either a b) c
either_first None b c = refl
either_first (Some j) b c = refl

both_from : (n : ℕ) (ks : List (Option Kind)) (xs ys : List Place) → noted_from n ks (xs ++ ys) ≡ noted_from n (noted_from n ks xs) ys
both_from n [] xs ys = refl
both_from n (k ∷ ks) xs ys =
    let head : either k (kind_of n (xs ++ ys)) ≡ either (either k (kind_of n xs)) (kind_of n ys) = ap (either k) (kind_in_both n xs ys) ∙ either_first k (kind_of n xs) (kind_of n ys) in
    ap (λ j. j ∷ noted_from (n + 1) ks (xs ++ ys)) head ∙ ap (λ js. either (either k (kind_of n xs)) (kind_of n ys) ∷ js) (both_from (n + 1) ks xs ys)

none_from : (n : ℕ) (ks : List (Option Kind)) → noted_from n ks [] ≡ ks
none_from n [] = refl
none_from n (k ∷ ks) = ap (λ j. j ∷ noted_from (n + 1) ks []) (either_none k) ∙ ap (λ js. k ∷ js) (none_from (n + 1) ks)

pub noted_both : (ks : List (Option Kind)) (xs ys : List Place) → noted ks (xs ++ ys) ≡ noted (noted ks xs) ys
noted_both ks xs ys = both_from 1 ks xs ys

pub noted_none : (ks : List (Option Kind)) (ps : List Place) → ps ≡ [] → ks ≡ noted ks ps
noted_none ks ps is = sym (ap (noted ks) is ∙ none_from 1 ks)

-- ---- one place

other : (n m : ℕ) (k : Kind) (b : Bool) → (n == m) ≡ b → b ≡ false → kind_of m ((n, k) ∷ []) ≡ None
other n m k b is fails = ap (λ t. if t then Some k else None) (is ∙ fails)

differ : (n m : ℕ) → (n ≡ m → ⊥) → (n == m) ≡ false
differ n m apart = elim (eqb_tells n m) [
  | inl y ↦ absurd (apart y.1)
  | inr z ↦ z.0
]

same : (n : ℕ) → (n == n) ≡ true
same n = elim (eqb_tells n n) [
  | inl y ↦ y.0
  | inr z ↦ absurd (z.1 refl)
]

-- of a parameter that is none of these it gives nothing
below_from : (m n : ℕ) (k : Kind) (ks : List (Option Kind)) → n < m → noted_from m ks ((n, k) ∷ []) ≡ ks
below_from m n k [] lt = refl
below_from m n k (j ∷ ks) lt =
    let none : kind_of m ((n, k) ∷ []) ≡ None = other n m k (n == m) refl (differ n m (λ e. omega (arith, lt, e))) in
    ap (λ i. either j i ∷ noted_from (m + 1) ks ((n, k) ∷ [])) none ∙ (ap (λ i. i ∷ noted_from (m + 1) ks ((n, k) ∷ [])) (either_none j) ∙ ap (λ js. j ∷ js) (below_from (m + 1) n k ks (omega (arith, lt))))

above_from : (m n : ℕ) (k : Kind) (ks : List (Option Kind)) → m + length ks ≤ n → noted_from m ks ((n, k) ∷ []) ≡ ks
above_from m n k [] le = refl
above_from m n k (j ∷ ks) le =
    let none : kind_of m ((n, k) ∷ []) ≡ None = other n m k (n == m) refl (differ n m (λ e. omega (arith, le, e))) in
    ap (λ i. either j i ∷ noted_from (m + 1) ks ((n, k) ∷ [])) none ∙ (ap (λ i. i ∷ noted_from (m + 1) ks ((n, k) ∷ [])) (either_none j) ∙ ap (λ js. j ∷ js) (above_from (m + 1) n k ks (omega (arith, le))))

pub none_of_these : (n : ℕ) (k : Kind) (ks : List (Option Kind)) → ((n < 1) ⊎ (length ks < n)) → ks ≡ noted ks ((n, k) ∷ [])
none_of_these n k ks (inl lt) = sym (below_from 1 n k ks lt)
none_of_these n k ks (inr lt) = sym (above_from 1 n k ks (omega (arith, lt)))

-- and of one of these a kind that is known stays, else it comes
one_from : (m i n : ℕ) (k : Kind) (ks : List (Option Kind)) → n ≡ m + i → i < length ks → set ks i (either (get_or ks i None) (Some k)) ≡ noted_from m ks ((n, k) ∷ [])
one_from m i n k [] at lt = absurd (omega (arith, lt))
one_from m zero n k (j ∷ ks) at lt =
    let here : n ≡ m = omega (arith, at) in
    let this : kind_of m ((n, k) ∷ []) ≡ Some k = ap (λ t. if t then Some k else None) (ap (λ l. l == m) here ∙ same m) in
    sym (ap (λ i. either j i ∷ noted_from (m + 1) ks ((n, k) ∷ [])) this ∙ ap (λ js. either j (Some k) ∷ js) (below_from (m + 1) n k ks (omega (arith, at))))
one_from m (suc i) n k (j ∷ ks) at lt =
    let none : kind_of m ((n, k) ∷ []) ≡ None = other n m k (n == m) refl (differ n m (λ e. omega (arith, at, e))) in
    ap (λ js. j ∷ js) (one_from (m + 1) i n k ks (omega (arith, at)) (omega (arith, lt)))
    ∙ sym (ap (λ i. either j i ∷ noted_from (m + 1) ks ((n, k) ∷ [])) none ∙ ap (λ i. i ∷ noted_from (m + 1) ks ((n, k) ∷ [])) (either_none j))

pub one_of_these : (n i : ℕ) (k : Kind) (ks : List (Option Kind)) → n ≡ 1 + i → i < length ks → set ks i (either (get_or ks i None) (Some k)) ≡ noted ks ((n, k) ∷ [])
one_of_these n i k ks at lt = one_from 1 i n k ks at lt

-- ---- where nothing was known

told_from : (m count i : ℕ) (ps : List Place) → i < count → get_or (noted_from m (none_known count) ps) i None ≡ kind_of (m + i) ps
told_from m zero i ps lt = absurd (omega (arith, lt))
told_from m (suc count) zero ps lt = let e : m ≡ m + 0 = omega arith in ap (λ n. kind_of n ps) e
told_from m (suc count) (suc i) ps lt = let e : (m + 1) + i ≡ m + suc i = omega arith in told_from (m + 1) count i ps (omega (arith, lt)) ∙ ap (λ n. kind_of n ps) e

pub place_told : (count i : ℕ) (ps : List Place) → i < count → get_or (noted (none_known count) ps) i None ≡ kind_of (i + 1) ps
place_told count i ps lt = let e : 1 + i ≡ i + 1 = omega arith in told_from 1 count i ps lt ∙ ap (λ n. kind_of n ps) e

length_from : (m : ℕ) (ks : List (Option Kind)) (ps : List Place) → length (noted_from m ks ps) ≡ length ks
length_from m [] ps = refl
length_from m (k ∷ ks) ps = ap suc (length_from (m + 1) ks ps)

none_count : (count : ℕ) → length (none_known count) ≡ count
none_count zero = refl
none_count (suc count) = ap suc (none_count count)

pub count_told : (count : ℕ) (ps : List Place) → length (noted (none_known count) ps) ≡ count
count_told count ps = length_from 1 (none_known count) ps ∙ none_count count
