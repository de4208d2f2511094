-- The listed sessions of a set are those that it has.
use Rattle.std.proofs.Common.{◌≡◌, ℕ, zero, suc, ◌<◌, ◌&&◌, ◌||◌, Bool, true, false, List, [], ◌∷◌, ◌++◌, nat_lt, nat_eq, if◌then◌else◌, inl, inr, refl, ap, ◌∙◌, arith}
use Rattle.std.specs.List.{list_any}
use Rattle.std.proofs.lemmas.Bool.{cases_Bool}
use Rattle.std.proofs.lemmas.Bool.Decides.{nat_tests}
use Rattle.std.proofs.lemmas.Grind.{common_steps}
use Rattle.pg_values.specs.declared.session_set.SessionSet.{SessionSet}
use Rattle.pg_values.specs.Sets.{has, sessions_below, sessions}

any-behind : (k : ℕ) (xs ys : List ℕ) → list_any (nat_eq k) (xs ++ ys) ≡ (list_any (nat_eq k) xs || list_any (nat_eq k) ys)
any-behind k [] ys = refl
any-behind k (x ∷ xs) ys = elim (cases_Bool (nat_eq k x)) [
  | inl t ↦ rw t refl
  | inr f ↦ rw f (any-behind k xs ys)
]

step : (k n : ℕ) (s : SessionSet) → (b : Bool) → has s n ≡ b → ((nat_lt k n && has s k) || list_any (nat_eq k) (if b then n ∷ [] else [])) ≡ (nat_lt k (suc n) && has s k)
step k n s true e = elim (cases_Bool (nat_eq k n)) [
  | inl t ↦ let same : k ≡ n = grind (arith, nat_tests) in let here : has s k ≡ true = ap (has s) same ∙ e in grind (arith, common_steps, nat_tests)
  | inr f ↦ grind (arith, common_steps, nat_tests)
]
step k n s false e = elim (cases_Bool (nat_eq k n)) [
  | inl t ↦ let same : k ≡ n = grind (arith, nat_tests) in let here : has s k ≡ false = ap (has s) same ∙ e in grind (arith, common_steps, nat_tests)
  | inr f ↦ grind (arith, common_steps, nat_tests)
]

below_has : (n k : ℕ) (s : SessionSet) → list_any (nat_eq k) (sessions_below n s) ≡ (nat_lt k n && has s k)
below_has zero k s = grind (arith, common_steps, nat_tests)
below_has (suc n) k s = any-behind k (sessions_below n s) (if has s n then n ∷ [] else []) ∙ ap (λ b. b || list_any (nat_eq k) (if has s n then n ∷ [] else [])) (below_has n k s) ∙ step k n s (has s n) refl

pub sessions_has : (k : ℕ) (s : SessionSet) → k < 128 → list_any (nat_eq k) (sessions s) ≡ has s k
unfolding sessions
sessions_has k s h = below_has 128 k s ∙ grind (arith, common_steps, nat_tests)
