-- The zeros before a number are taken away one by one.
use Rattle.std.proofs.Common.{◌≡◌, ℕ, ◌<◌, ◌≤◌, Bool, true, false, ◌==◌, slice_index, List, [], ◌∷◌, length, drop, refl, sym, arith}
use Rattle.sql_syntax.specs.Setting.{without_zeros}

pub one_zero : (z : List ℕ) → 1 < length z → slice_index z 0 ≡ 48 → without_zeros (drop 1 z) ≡ without_zeros z
one_zero [] h e = absurd (omega arith)
one_zero (b ∷ []) h e = absurd (omega arith)
one_zero (b ∷ c ∷ z) h e = rw e refl

pub one_digit : (z : List ℕ) → length z ≤ 1 → without_zeros z ≡ z
one_digit [] h = refl
one_digit (b ∷ []) h = refl
one_digit (b ∷ c ∷ z) h = absurd (omega arith)

no_zero_here : (b : ℕ) (f : Bool) → (b == 48) ≡ f → (b ≡ 48 → ⊥) → f ≡ false
no_zero_here b true e h = absurd (h (grind (arith, e)))
no_zero_here b false e h = refl

pub no_zero : (z : List ℕ) → (slice_index z 0 ≡ 48 → ⊥) → without_zeros z ≡ z
no_zero [] h = refl
no_zero (b ∷ []) h = refl
no_zero (b ∷ c ∷ z) h = let f : (b == 48) ≡ false = no_zero_here b (b == 48) refl h in rw f refl
