-- The least cycle is the first of all.
use Rattle.std.proofs.Common.{◌≡◌, ℕ, zero, suc, ◌<◌, ◌≤◌, Bool, true, false, List, [], ◌∷◌, Some, None, length, map, slice_get, nat_eq, inl, inr, refl, sym, ap, ◌∙◌, subst, arith}
use Rattle.std.specs.List.{list_any, IsDistinct, AllByRecursion}
use Rattle.std.proofs.lemmas.Grind.{common_steps}
use Rattle.std.proofs.lemmas.Bool.{cases_lt, cases_Bool, cases_eq}
use Rattle.std.proofs.lemmas.Bool.Decides.{nat_tests}
use Rattle.std.proofs.lemmas.Map.Steps.{length-le_from_distinct_below}
use Rattle.std.proofs.lemmas.Option.{slice_get-map}
use Rattle.history.specs.Waits.{IsChain, IsCycle, IsLeastCycle, precedes}
use Rattle.lock_table.specs.Asked.{chains, cycles_within, least_cycle}
use Rattle.lock_table.proofs.Sessions.{first_stays, none_of, first_of}

-- only sessions wait
abbrev pub AreWaiters : (ℕ → ℕ → Bool) → Type 0
AreWaiters waits = (x y : ℕ) → waits x y ≡ true → x < 128

-- where a chain begins somebody waits
pub waiter_low : (waits : ℕ → ℕ → Bool) (s x : ℕ) (ys : List ℕ) → AreWaiters waits → IsChain waits s x ys → x < 128
waiter_low waits s x [] low c = low x s c
waiter_low waits s x (y ∷ ys) low c = low x y c.0

no_chains : (waits : ℕ → ℕ → Bool) (s n x : ℕ) → ((ys : List ℕ) → IsChain waits s x ys → length ys ≡ n → ⊥) → chains waits s n x ≡ []
no_chains waits s zero x none = elim (cases_Bool (waits x s)) [ inl t ↦ absurd (none [] t refl) | inr f ↦ rw f refl ]
no_chains waits s (suc n) x none =
    none_of (waits x) (λ y. map (λ ys. y ∷ ys) (chains waits s n y))
    (λ y t. let rest = no_chains waits s n y (λ ys c e. none (y ∷ ys) (t, c) (ap suc e)) in rw rest refl)

later : (other ys : List ℕ) (y : ℕ) → precedes (y ∷ other) (y ∷ ys) ≡ false → precedes other ys ≡ false
later other ys y f = grind (arith, common_steps, nat_tests, f)

sooner : (other ys : List ℕ) (z y : ℕ) → z < y → precedes (z ∷ other) (y ∷ ys) ≡ false → ⊥
sooner other ys z y lt f = grind (arith, common_steps, nat_tests, f)

first_chain : (waits : ℕ → ℕ → Bool) (s n x : ℕ) (ys : List ℕ) → AreWaiters waits → IsChain waits s x ys → length ys ≡ n → ((other : List ℕ) → IsChain waits s x other → length other ≡ n → precedes other ys ≡ false)
    → slice_get (chains waits s n x) 0 ≡ Some ys
first_chain waits s zero x [] low c e least = rw c refl
first_chain waits s zero x (y ∷ ys) low c e least = absurd (omega (arith, e))
first_chain waits s (suc n) x [] low c e least = absurd (omega (arith, e))
first_chain waits s (suc n) x (y ∷ ys) low c e least =
    let len : length ys ≡ n = omega (arith, e) in
    let rest = first_chain waits s n y ys low c.1 len (λ other o eo. later other ys y (least (y ∷ other) (c.0, o) (ap suc eo))) in
    first_of (waits x) (λ y. map (λ ys. y ∷ ys) (chains waits s n y)) y (y ∷ ys) (waiter_low waits s y ys low c.1) c.0
    (slice_get-map (λ ys. y ∷ ys) (chains waits s n y) 0 ∙ rw rest refl)
    (λ z lt t. let none = no_chains waits s n z (λ other o eo. sooner other ys z y lt (least (z ∷ other) (t, o) (ap suc eo))) in rw none refl)

none_within : (n : ℕ) (waits : ℕ → ℕ → Bool) (s : ℕ) → ((ys : List ℕ) → IsChain waits s s ys → length ys < n → ⊥) → cycles_within n waits s ≡ []
none_within zero waits s none = refl
none_within (suc n) waits s none =
    let rest = none_within n waits s (λ ys c lt. none ys c (omega arith)) in
    let last = no_chains waits s n s (λ ys c e. none ys c (omega arith)) in
    rw (rest, last) refl

first_within : (n : ℕ) (waits : ℕ → ℕ → Bool) (s : ℕ) (ys : List ℕ) → AreWaiters waits → IsChain waits s s ys → length ys < n → ((other : List ℕ) → IsChain waits s s other → length ys ≤ length other)
    → ((other : List ℕ) → IsChain waits s s other → length other ≡ length ys → precedes other ys ≡ false) → slice_get (cycles_within n waits s) 0 ≡ Some (s ∷ ys)
first_within zero waits s ys low c lt short least = absurd (omega arith)
first_within (suc n) waits s ys low c lt short least =
    elim (cases_lt (length ys) n) [
      | inl less ↦ first_stays (cycles_within n waits s) _ (s ∷ ys) (first_within n waits s ys low c less short least)
      | inr ge ↦
          let len : length ys ≡ n = omega arith in
          let none = none_within n waits s (λ other o lo. let le = short other o in omega arith) in
          let last = first_chain waits s n s ys low c len (λ other o eo. least other o (eo ∙ sym len)) in
          rw none (slice_get-map (λ ys. s ∷ ys) (chains waits s n s) 0 ∙ rw last refl)
    ]

-- ---- a shortest cycle has each session once

shorter : (waits : ℕ → ℕ → Bool) (s x z : ℕ) (ys : List ℕ) → IsChain waits s z ys → list_any (nat_eq x) ys ≡ true → (rest : List ℕ) × IsChain waits s x rest × (length rest < length ys)
shorter waits s x z [] c t = absurd (cc)
shorter waits s x z (y ∷ ys) c t = elim (cases_eq x y) [
  | inl same ↦ (ys, subst (λ k. IsChain waits s k ys) (sym same) c.1, omega arith)
  | inr apart ↦ let r = shorter waits s x y ys c.1 (grind (arith, common_steps, nat_tests, t)) in (r.0, r.1, omega (arith, r.2))
]

pub off : (x : ℕ) (ys : List ℕ) → list_any (nat_eq x) ys ≡ false → AllByRecursion (λ y. nat_eq x y ≡ false) ys
off x [] f = tt
off x (y ∷ ys) f = (grind (arith, common_steps, nat_tests, f), off x ys (grind (arith, common_steps, nat_tests, f)))

each_once : (waits : ℕ → ℕ → Bool) (s x : ℕ) (ys : List ℕ) → IsChain waits s x ys → ((other : List ℕ) → IsChain waits s x other → length ys ≤ length other) → IsDistinct nat_eq (x ∷ ys)
unfolding IsDistinct
each_once waits s x [] c short = (tt, tt)
each_once waits s x (y ∷ ys) c short =
    let rest = each_once waits s y ys c.1 (λ other o. let le = short (y ∷ other) (c.0, o) in omega (arith, le)) in
    let once : list_any (nat_eq x) (y ∷ ys) ≡ false = elim (cases_Bool (list_any (nat_eq x) (y ∷ ys))) [
      | inl t ↦ absurd (let r = shorter waits s x x (y ∷ ys) c t in let le = short r.0 r.1 in omega (arith, le, r.2))
      | inr f ↦ f
    ] in
    (off x (y ∷ ys) once, rest)

pub each_low : (waits : ℕ → ℕ → Bool) (s x : ℕ) (ys : List ℕ) → AreWaiters waits → IsChain waits s x ys → (q : ℕ) → list_any (nat_eq q) (x ∷ ys) ≡ true → q < 128
each_low waits s x [] low c q t =
    let same : q ≡ x = grind (arith, common_steps, nat_tests, t) in
    subst (λ k. k < 128) (sym same) (low x s c)
each_low waits s x (y ∷ ys) low c q t = elim (cases_eq q x) [
  | inl same ↦ subst (λ k. k < 128) (sym same) (low x y c.0)
  | inr apart ↦ each_low waits s y ys low c.1 q (grind (arith, common_steps, nat_tests, t))
]

-- ---- the least cycle

pub least_is : (waits : ℕ → ℕ → Bool) (s : ℕ) (cycle : List ℕ) → AreWaiters waits → IsLeastCycle waits s cycle → least_cycle waits s ≡ Some cycle
unfolding least_cycle
least_is waits s [] low least = absurd (least.is)
least_is waits s (x ∷ ys) low least =
    let c : IsChain waits s s ys = subst (λ k. IsChain waits s k ys) least.is.0 least.is.1 in
    let short : (other : List ℕ) → IsChain waits s s other → length ys ≤ length other = λ other o. let le = least.shortest (s ∷ other) (refl, o) in omega (arith, le) in
    let few = length-le_from_distinct_below (s ∷ ys) 128 (each_once waits s s ys c short) (each_low waits s s ys low c) in
    let first = first_within 128 waits s ys low c (omega (arith, few)) short
    (λ other o e. let f = subst (λ k. precedes (s ∷ other) (k ∷ ys) ≡ false) least.is.0 (least.least (s ∷ other) (refl, o) (ap suc e)) in later other ys s f) in
    first ∙ ap (λ k. Some (k ∷ ys)) (sym least.is.0)

pub least_none : (waits : ℕ → ℕ → Bool) (s : ℕ) → ((cycle : List ℕ) → IsCycle waits s cycle → ⊥) → least_cycle waits s ≡ None
unfolding least_cycle
least_none waits s none = rw (none_within 128 waits s (λ ys c lt. none (s ∷ ys) (refl, c))) refl
