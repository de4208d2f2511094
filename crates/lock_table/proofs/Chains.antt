-- Chains of waits.
use Rattle.std.proofs.Common.{◌≡◌, ◌≢◌, ℕ, zero, suc, ◌+◌, ◌<◌, ◌≤◌, ◌^◌, ◌==◌, ◌&&◌, ◌||◌, not, Bool, true, false, arith, refl, sym, ap, ◌∙◌, List, [], ◌∷◌, length, slice_index_or, nat_lt, inl, inr, add-one, subst}
use Rattle.std.proofs.lemmas.Grind.{common_steps, elements}
use Rattle.std.proofs.lemmas.Bool.{cases_lt, cases_Bool, cases_eq, and_parts, lt-ltb, le-ltb}
use Rattle.std.proofs.lemmas.Bool.Decides.{nat_tests}
use Rattle.std.proofs.lemmas.Nat.Bits.{bit_at-zero}
use Rattle.pg_values.specs.Sets.{has, empty, nobody}
use Rattle.pg_values.specs.declared.session_set.SessionSet.{SessionSet}
use Rattle.pg_values.proofs.Bits.{nobody_is, somebody_is, nobody_none, has_below}
use Rattle.lock_table.specs.Graph.{edge, leads, IsShortest}
use Rattle.lock_table.proofs.Ways.{IsFreeOfCycles, IsLeastNext, IsLeastWay}

pub no_edge : (g : List SessionSet) (x y : ℕ) → length g ≤ x → edge g x y ≡ false
no_edge g x y le = grind (arith, common_steps, elements, nat_tests, bit_at-zero y)

pub no_row : (g : List SessionSet) (x : ℕ) (p : ℕ → Bool) → length g ≤ x → nobody (λ y. edge g x y && p y) ≡ true
no_row g x p le = nobody_none _ (λ y. rw (no_edge g x y le) refl)

-- one more row, taken or not
pub row_more : (i z : ℕ) (q f : Bool) (r : ℕ → Bool) → q ≡ (nat_lt z i && not (r z)) → f ≡ ((z == i) && not (r i) || q) → f ≡ (nat_lt z (i + 1) && not (r z))
row_more i z q f r old new =
    elim (cases_eq z i) [
      | inl e ↦ grind (arith, common_steps, nat_tests, ap r e)
      | inr e ↦ grind (arith, common_steps, nat_tests)
    ]

pub all_rows : (g : List SessionSet) (x i : ℕ) (q : Bool) (p : ℕ → Bool) → length g ≤ i → q ≡ (nat_lt x i && not (nobody (λ y. edge g x y && p y))) → q ≡ not (nobody (λ y. edge g x y && p y))
all_rows g x i q p le e =
    elim (cases_lt x i) [
      | inl lt ↦ e ∙ ap (λ b. b && not (nobody (λ y. edge g x y && p y))) (lt-ltb x i lt)
      | inr above ↦ e ∙ ap (λ b. b && not (nobody (λ y. edge g x y && p y))) (le-ltb x i above) ∙ ap not (sym (no_row g x p (omega arith)))
    ]

pub leads_more : (g : List SessionSet) (s k x : ℕ) → leads g s (k + 1) x ≡ not (nobody (λ y. edge g x y && leads g s k y))
leads_more g s k x = rw add-one refl

-- one wait more
pub chain : (g : List SessionSet) (s k x y : ℕ) → edge g x y ≡ true → leads g s k y ≡ true → y < 128 → leads g s (k + 1) x ≡ true
chain g s k x y e l lt =
    elim (cases_Bool (nobody (λ z. edge g x z && leads g s k z))) [
      | inl none ↦ absurd (let h = nobody_is (λ z. edge g x z && leads g s k z) y lt none in let t : (edge g x y && leads g s k y) ≡ true = rw (e, l) refl in cc)
      | inr some ↦ leads_more g s k x ∙ ap not some
    ]

pub first_wait : (g : List SessionSet) (s k x : ℕ) → leads g s (k + 1) x ≡ true → (y : ℕ) × (y < 128) × (edge g x y ≡ true) × (leads g s k y ≡ true)
first_wait g s k x e =
    elim (cases_Bool (nobody (λ z. edge g x z && leads g s k z))) [
      | inl none ↦ absurd (let h = sym e ∙ leads_more g s k x ∙ ap not none in cc)
      | inr some ↦ let r = somebody_is (λ z. edge g x z && leads g s k z) some in let both = and_parts _ _ r.2 in (r.0, r.1, both.0, both.1)
    ]

-- who has a chain of waits before it waits itself
pub leads_below : (g : List SessionSet) (s k x : ℕ) → length g ≤ 65 → leads g s (k + 1) x ≡ true → x < 65
leads_below g s k x few e =
    let f = first_wait g s k x e in
    elim (cases_lt x 65) [
      | inl lt ↦ lt
      | inr above ↦ absurd (let none = no_edge g x f.0 (omega arith) in let t = f.2 in cc)
    ]

-- what is closed under one wait more has all chains
pub all_near : (g : List SessionSet) (s k : ℕ) (reached : ℕ → Bool)
    → ((x : ℕ) → leads g s (k + 1) x ≡ true → reached x ≡ true)
    → ((i x : ℕ) → 0 < i → i ≤ k → leads g s i x ≡ true → reached x ≡ true)
    → ((x : ℕ) → reached x ≡ true → (i : ℕ) × (0 < i) × (i ≤ k) × (leads g s i x ≡ true))
    → (i x : ℕ) → leads g s (i + 1) x ≡ true → reached x ≡ true
all_near g s k reached next near only zero x e = elim (cases_lt 0 k) [ inl lt ↦ near 1 x (omega arith) (omega arith) e | inr le ↦ next x (let z : k ≡ 0 = omega arith in rw z e) ]
all_near g s k reached next near only (suc i) x e =
    let n : suc i + 1 ≡ i + 1 + 1 = omega arith in
    let f = first_wait g s (i + 1) x (subst (λ j. leads g s j x ≡ true) n e) in
    let y = f.0 in
    let r = only y (all_near g s k reached next near only i y f.3) in
    let on = chain g s r.0 x y f.2 r.3 f.1 in
    elim (cases_lt r.0 k) [
      | inl lt ↦ near (r.0 + 1) x (omega arith) (omega arith) on
      | inr le ↦ next x (let z : r.0 ≡ k = omega (arith, r.2) in subst (λ j. leads g s (j + 1) x ≡ true) z on)
    ]

-- one level more, over a set that had k of them
pub near_more : (g : List SessionSet) (s k : ℕ) (reached set grown : ℕ → Bool)
    → ((x : ℕ) → set x ≡ leads g s (k + 1) x) → ((x : ℕ) → grown x ≡ (reached x || set x))
    → ((i x : ℕ) → 0 < i → i ≤ k → leads g s i x ≡ true → reached x ≡ true)
    → (i x : ℕ) → 0 < i → i ≤ k + 1 → leads g s i x ≡ true → grown x ≡ true
near_more g s k reached set grown is union near i x pos le e =
    elim (cases_lt k i) [
      | inl lt ↦ let n : i ≡ k + 1 = omega arith in let t = is x ∙ subst (λ j. leads g s j x ≡ true) n e in grind (arith, common_steps, union x, t)
      | inr low ↦ let t = near i x pos low e in grind (arith, common_steps, union x, t)
    ]

pub only_more : (g : List SessionSet) (s k : ℕ) (reached set grown : ℕ → Bool)
    → ((x : ℕ) → set x ≡ leads g s (k + 1) x) → ((x : ℕ) → grown x ≡ (reached x || set x))
    → ((x : ℕ) → reached x ≡ true → (i : ℕ) × (0 < i) × (i ≤ k) × (leads g s i x ≡ true))
    → (x : ℕ) → grown x ≡ true → (i : ℕ) × (0 < i) × (i ≤ k + 1) × (leads g s i x ≡ true)
only_more g s k reached set grown is union only x e =
    elim (cases_Bool (reached x)) [
      | inl t ↦ let r = only x t in (r.0, r.1, omega (arith, r.2), r.3)
      | inr f ↦ (k + 1, omega arith, omega arith, sym (is x) ∙ grind (arith, common_steps, union x, f, e))
    ]

pub not_more : (g : List SessionSet) (s k : ℕ) → leads g s (k + 1) s ≡ false → ((i : ℕ) → 0 < i → i ≤ k → leads g s i s ≡ false) → (i : ℕ) → 0 < i → i ≤ k + 1 → leads g s i s ≡ false
not_more g s k last early i pos le =
    elim (cases_lt k i) [
      | inl lt ↦ let n : k + 1 ≡ i = omega arith in subst (λ j. leads g s j s ≡ false) n last
      | inr low ↦ early i pos low
    ]

pub free_of : (g : List SessionSet) (s k : ℕ) (reached : ℕ → Bool)
    → ((x : ℕ) → leads g s (k + 1) x ≡ true → reached x ≡ true)
    → ((i x : ℕ) → 0 < i → i ≤ k → leads g s i x ≡ true → reached x ≡ true)
    → ((x : ℕ) → reached x ≡ true → (i : ℕ) × (0 < i) × (i ≤ k) × (leads g s i x ≡ true))
    → ((i : ℕ) → 0 < i → i ≤ k → leads g s i s ≡ false)
    → IsFreeOfCycles g s
free_of g s k reached next near only early zero pos = absurd (omega arith)
free_of g s k reached next near only early (suc i) pos =
    elim (cases_Bool (leads g s (suc i) s)) [
      | inr f ↦ f
      | inl t ↦ absurd (
          let n : suc i ≡ i + 1 = omega arith in
          let r = only s (all_near g s k reached next near only i s (subst (λ j. leads g s j s ≡ true) n t)) in
          let f = early r.0 r.1 r.2 in
          let u = r.3 in cc)
    ]

pub lacks : (g : List SessionSet) (s k : ℕ) (reached : Bool)
    → (reached ≡ true → (i : ℕ) × (0 < i) × (i ≤ k) × (leads g s i s ≡ true))
    → ((i : ℕ) → 0 < i → i ≤ k → leads g s i s ≡ false) → reached ≡ false
lacks g s k false only early = refl
lacks g s k true only early = absurd (let r = only refl in let f = early r.0 r.1 r.2 in let u = r.3 in cc)

pub way_more : (g : List SessionSet) (s k n x y : ℕ) (way : List ℕ) → n ≡ k + 1 → IsLeastNext g s k x y → IsLeastWay g s k y way → IsLeastWay g s n x (y ∷ way)
way_more g s k n x y way e next more =
    let m : suc k ≡ n = omega arith in
    subst (λ j. IsLeastWay g s j x (y ∷ way)) m (next, more)

pub way_none : (g : List SessionSet) (s n x : ℕ) → n ≡ 0 → IsLeastWay g s n x []
way_none g s n x e = subst (λ j. IsLeastWay g s j x []) (sym e) refl

pub no_next : (g : List SessionSet) (s k n x : ℕ) → n ≡ k + 1 → leads g s n x ≡ true → ((y : ℕ) → (edge g x y && leads g s k y) ≡ false) → ⊥
no_next g s k n x e on none =
    let f = first_wait g s k x (subst (λ j. leads g s j x ≡ true) e on) in
    let t : (edge g x f.0 && leads g s k f.0) ≡ true = rw (f.2, f.3) refl in
    let u = none f.0 in cc
