-- The set of the sessions that pass a test.
use Rattle.std.proofs.Common.{◌≡◌, ℕ, zero, suc, ◌<◌, ◌≤◌, ◌==◌, ◌||◌, Bool, true, false, inl, inr, sym, ap, ◌∙◌, arith}
use Rattle.std.specs.Int.{bit_at}
use Rattle.std.proofs.lemmas.Grind.{common_steps}
use Rattle.std.proofs.lemmas.Bool.{cases_Bool, cases_lt}
use Rattle.std.proofs.lemmas.Bool.Decides.{nat_tests}
use Rattle.std.proofs.lemmas.Nat.Bits.{bit_at-zero, bit_at-lt, same_from_bits}
use Rattle.pg_values.specs.Sets.{has, empty}
use Rattle.pg_values.specs.declared.session_set.SessionSet.{SessionSet}
use Rattle.pg_values.proofs.Bits.{set_has}
use Rattle.ddl_steps.specs.Sessions.{joined_by, those_below, those}

none_has : (k : ℕ) → has empty k ≡ false
none_has k = grind (arith, common_steps, nat_tests, bit_at-zero k)

more_has : (s : SessionSet) (n k : ℕ) → n < 128 → has (joined_by s n) k ≡ ((k == n) || has s k)
more_has s n k lt = set_has s.bits n k lt

itself : (n : ℕ) → (n == n) ≡ true
itself n = grind (arith, nat_tests)

-- those below n have nobody from n on
above_has : (n : ℕ) (p : ℕ → Bool) (k : ℕ) → n ≤ 128 → n ≤ k → has (those_below n p) k ≡ false
above_has zero p k few le = none_has k
above_has (suc n) p k few le =
    let off : (k == n) ≡ false = grind (arith, nat_tests, le) in
    let rest = above_has n p k (omega (arith, few)) (omega (arith, le)) in
    elim (cases_Bool (p n)) [
      | inl t ↦ rw t (more_has (those_below n p) n k (omega (arith, few)) ∙ (ap (λ (b : Bool). b || has (those_below n p) k) off ∙ rest))
      | inr f ↦ rw f rest
    ]

-- and below n just those who pass
below_has : (n : ℕ) (p : ℕ → Bool) (k : ℕ) → n ≤ 128 → k < n → has (those_below n p) k ≡ p k
below_has zero p k few lt = absurd (omega (arith, lt))
below_has (suc n) p k few lt = elim (cases_Bool (p n)) [
  | inl t ↦ rw t (elim (cases_lt k n) [
    | inl less ↦ let off : (k == n) ≡ false = grind (arith, nat_tests, less) in more_has (those_below n p) n k (omega (arith, few)) ∙ (ap (λ (b : Bool). b || has (those_below n p) k) off ∙ below_has n p k (omega (arith, few)) less)
    | inr most ↦ let same : k ≡ n = omega (arith, lt, most) in rw same (more_has (those_below n p) n n (omega (arith, few)) ∙ (ap (λ (b : Bool). b || has (those_below n p) n) (itself n) ∙ sym t))
  ])
  | inr f ↦ rw f (elim (cases_lt k n) [
    | inl less ↦ below_has n p k (omega (arith, few)) less
    | inr most ↦ let same : k ≡ n = omega (arith, lt, most) in rw same (above_has n p n (omega (arith, few)) (omega arith) ∙ sym f)
  ])
]

pub those_have : (p : ℕ → Bool) (k : ℕ) → k < 128 → has (those p) k ≡ p k
unfolding those
those_have p k lt = below_has 128 p k (omega arith) lt

pub those_low : (p : ℕ → Bool) (k : ℕ) → 128 ≤ k → has (those p) k ≡ false
unfolding those
those_low p k le = above_has 128 p k (omega arith) le

one_bit : (a b : ℕ) → a < 2 → b < 2 → (a == 1) ≡ (b == 1) → a ≡ b
one_bit a b x y same = grind (arith, common_steps, nat_tests, same)

-- a set of sessions is told by whom it has
pub same_sets : (a b : SessionSet) → ((k : ℕ) → has a k ≡ has b k) → a ≡ b
same_sets a b same =
    let of : ℕ → SessionSet = λ n. record { bits = n } in
    ap of (same_from_bits a.bits b.bits (λ k. one_bit (bit_at a.bits k) (bit_at b.bits k) (bit_at-lt a.bits k) (bit_at-lt b.bits k) (same k)))

-- so it is those who pass, where it has just them and none past the last number
pub are_those : (set : SessionSet) (p : ℕ → Bool) → ((k : ℕ) → has set k ≡ p k) → ((k : ℕ) → 128 ≤ k → has set k ≡ false) → those p ≡ set
are_those set p is low = same_sets (those p) set (λ k. elim (cases_lt k 128) [ inl lt ↦ those_have p k lt ∙ sym (is k) | inr le ↦ those_low p k le ∙ sym (low k le) ])
