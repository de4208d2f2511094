-- Where there is a cycle, there is one that has each session once, so the search through cycles of 128 sessions finds one.
use Rattle.std.proofs.Common.{◌≡◌, ℕ, zero, suc, ◌<◌, Bool, true, List, [], ◌∷◌, None, length, map, slice_get, nat_eq, inl, inr, refl, sym, ◌∙◌, subst, arith}
use Rattle.std.specs.List.{list_any, IsDistinct}
use Rattle.std.proofs.lemmas.Bool.{cases_lt, cases_Bool, cases_eq}
use Rattle.std.proofs.lemmas.Bool.Decides.{nat_tests}
use Rattle.std.proofs.lemmas.Grind.{common_steps}
use Rattle.std.proofs.lemmas.Map.Steps.{length-le_from_distinct_below}
use Rattle.history.specs.Waits.{IsChain, IsCycle}
use Rattle.lock_table.specs.Asked.{chains, cycles_within, least_cycle}
use Rattle.lock_table.proofs.Sessions.{none_first, none_last, none_each}
use Rattle.lock_table.proofs.Cycles.{AreWaiters, waiter_low, off, each_low}

-- from x on, a chain that has each session once
pub record IsStraight (waits : ℕ → ℕ → Bool) (s x : ℕ) : Type 0 where
  pub rest : List ℕ
  pub chain : IsChain waits s x rest
  pub once : IsDistinct nat_eq (x ∷ rest)

-- cut before a session of the chain
cut : (waits : ℕ → ℕ → Bool) (s x y : ℕ) (ys : List ℕ) → IsChain waits s y ys → IsDistinct nat_eq (y ∷ ys) → list_any (nat_eq x) (y ∷ ys) ≡ true → IsStraight waits s x
unfolding IsDistinct
cut waits s x y [] c once t =
    let same : x ≡ y = grind (arith, common_steps, nat_tests, t) in
    subst (IsStraight waits s) (sym same) (record { rest = []; chain = c; once = once })
cut waits s x y (z ∷ zs) c once t = elim (cases_eq x y) [
  | inl same ↦ subst (IsStraight waits s) (sym same) (record { rest = z ∷ zs; chain = c; once = once })
  | inr apart ↦ cut waits s x z zs c.1 once.1 (grind (arith, common_steps, nat_tests, t))
]

straight : (waits : ℕ → ℕ → Bool) (s x : ℕ) (ys : List ℕ) → IsChain waits s x ys → IsStraight waits s x
unfolding IsDistinct
straight waits s x [] c = record { rest = []; chain = c; once = (tt, tt) }
straight waits s x (y ∷ ys) c =
    let more = straight waits s y ys c.1 in
    elim (cases_Bool (list_any (nat_eq x) (y ∷ more.rest))) [
      | inl t ↦ cut waits s x y more.rest more.chain more.once t
      | inr f ↦ record { rest = y ∷ more.rest; chain = (c.0, more.chain); once = (off x (y ∷ more.rest) f, more.once) }
    ]

some_chain : (waits : ℕ → ℕ → Bool) (s n x : ℕ) (ys : List ℕ) → AreWaiters waits → IsChain waits s x ys → length ys ≡ n → chains waits s n x ≡ [] → ⊥
some_chain waits s zero x [] low c e none = let full : chains waits s zero x ≡ [] ∷ [] = rw c refl in let both = sym full ∙ none in cc
some_chain waits s zero x (y ∷ ys) low c e none = absurd (omega (arith, e))
some_chain waits s (suc n) x [] low c e none = absurd (omega (arith, e))
some_chain waits s (suc n) x (y ∷ ys) low c e none =
    let len : length ys ≡ n = omega (arith, e) in
    some_chain waits s n y ys low c.1 len (none_of_map y (chains waits s n y) (none_each (waits x) (λ z. map (λ ys. z ∷ ys) (chains waits s n z)) y (waiter_low waits s y ys low c.1) c.0 none))
  where
    none_of_map : (y : ℕ) (xs : List (List ℕ)) → map (λ ys. y ∷ ys) xs ≡ [] → xs ≡ []
    none_of_map y [] e = refl
    none_of_map y (x ∷ xs) e = absurd (cc)

some_within : (n : ℕ) (waits : ℕ → ℕ → Bool) (s : ℕ) (ys : List ℕ) → AreWaiters waits → IsChain waits s s ys → length ys < n → cycles_within n waits s ≡ [] → ⊥
some_within zero waits s ys low c lt none = omega (arith, lt)
some_within (suc n) waits s ys low c lt none =
    let first = none_first (cycles_within n waits s) (map (λ ys. s ∷ ys) (chains waits s n s)) none in
    let last = none_last (cycles_within n waits s) (map (λ ys. s ∷ ys) (chains waits s n s)) none in
    elim (cases_lt (length ys) n) [
      | inl less ↦ some_within n waits s ys low c less first
      | inr ge ↦ some_chain waits s n s ys low c (omega (arith, lt, ge)) (none_of_map s (chains waits s n s) last)
    ]
  where
    none_of_map : (y : ℕ) (xs : List (List ℕ)) → map (λ ys. y ∷ ys) xs ≡ [] → xs ≡ []
    none_of_map y [] e = refl
    none_of_map y (x ∷ xs) e = absurd (cc)

none_got : (xs : List (List ℕ)) → slice_get xs 0 ≡ None → xs ≡ []
none_got [] e = refl
none_got (x ∷ xs) e = absurd (cc)

-- where no least cycle is found, there is no cycle
pub no_cycle : (waits : ℕ → ℕ → Bool) (s : ℕ) → AreWaiters waits → least_cycle waits s ≡ None → (cycle : List ℕ) → IsCycle waits s cycle → ⊥
unfolding least_cycle
no_cycle waits s low none [] c = absurd c
no_cycle waits s low none (x ∷ ys) c =
    let one = straight waits s s ys (subst (λ k. IsChain waits s k ys) c.0 c.1) in
    let few = length-le_from_distinct_below (s ∷ one.rest) 128 one.once (each_low waits s s one.rest low one.chain) in
    some_within 128 waits s one.rest low one.chain (omega (arith, few)) (none_got (cycles_within 128 waits s) none)
