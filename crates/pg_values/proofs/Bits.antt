-- One bit of a set, and sets as numbers.
use Rattle.std.proofs.Common.{◌≡◌, ◌≢◌, ℕ, zero, suc, ◌-◌, ◌*◌, ◌%◌, ◌^◌, ◌<◌, ◌≤◌, ◌==◌, ◌&&◌, ◌||◌, not, Bool, true, false, inl, inr, refl, sym, ap, ◌∙◌, arith, bit_and, bit_or}
use Rattle.std.specs.Int.{bit_at, w128, trailing_zeros}
use Rattle.std.proofs.lemmas.Grind.{common_steps}
use Rattle.std.proofs.lemmas.Bool.{cases_lt, cases_Bool, and_parts}
use Rattle.std.proofs.lemmas.Bool.Decides.{nat_tests}
use Rattle.std.proofs.lemmas.Nat.{le_or_l, or_lt, and_le_l}
use Rattle.std.proofs.lemmas.Nat.Bits.{bit_at_not, bit_at_or, bit_at_and, bit_at-lt, bit_at_above, bit_at_set_same, bit_at_set_other, bit_at_clear_same, bit_at_clear_other, bit_at-trailing_zeros, bit_at-zero}
use Rattle.pg_values.specs.Sets.{none_below, nobody}

pub set_has : (n k j : ℕ) → k < 128 → (bit_at (bit_or n (1 * 2 ^ k % 2 ^ 128)) j == 1) ≡ ((j == k) || (bit_at n j == 1))
set_has n k j lt = grind (arith, common_steps, nat_tests, bit_at_set_same w128 n k lt, bit_at_set_other w128 n k lt j)

pub or_has : (a b j : ℕ) → (bit_at (bit_or a b) j == 1) ≡ ((bit_at a j == 1) || (bit_at b j == 1))
or_has a b j = grind (arith, common_steps, nat_tests, bit_at_or a b j, bit_at-lt a j, bit_at-lt b j)

pub and_has : (a b j : ℕ) → (bit_at (bit_and a b) j == 1) ≡ ((bit_at a j == 1) && (bit_at b j == 1))
and_has a b j = grind (arith, common_steps, nat_tests, bit_at_and a b j, bit_at-lt a j, bit_at-lt b j)

clear_has_low : (n k j : ℕ) → k < 128 → j < 128 → (bit_at (bit_and n (2 ^ 128 - 1 - 1 * 2 ^ k % 2 ^ 128)) j == 1) ≡ (not (j == k) && (bit_at n j == 1))
clear_has_low n k j lt low = grind (arith, common_steps, nat_tests, bit_at_clear_same w128 n k lt, bit_at_clear_other w128 n k lt j low)

clear_has_high : (n m k j : ℕ) → k < 128 → 128 ≤ j → n < 2 ^ 128 → (bit_at (bit_and n m) j == 1) ≡ (not (j == k) && (bit_at n j == 1))
clear_has_high n m k j lt high fits = grind (arith, common_steps, nat_tests, bit_at_and n m j, bit_at_above n 128 j fits high)

pub clear_has : (n k j : ℕ) → k < 128 → n < 2 ^ 128 → (bit_at (bit_and n (2 ^ 128 - 1 - 1 * 2 ^ k % 2 ^ 128)) j == 1) ≡ (not (j == k) && (bit_at n j == 1))
clear_has n k j lt fits = elim (cases_lt j 128) [ inl low ↦ clear_has_low n k j lt low | inr high ↦ clear_has_high n _ k j lt high fits ]

none_below-empty : (n : ℕ) (p : ℕ → Bool) → ((j : ℕ) → (bit_at 0 j == 1) ≡ p j) → none_below n p ≡ true
none_below-empty zero p same = refl
none_below-empty (suc n) p same = grind (arith, common_steps, nat_tests, same n, bit_at-zero n, none_below-empty n p same)

below_none : (n : ℕ) (p : ℕ → Bool) (k : ℕ) → k < n → none_below n p ≡ true → p k ≡ false
below_none zero p k lt e = absurd (omega arith)
below_none (suc n) p k lt e =
    let both = and_parts (not (p n)) (none_below n p) e in
    elim (cases_lt k n) [
      | inl below ↦ below_none n p k below both.1
      | inr above ↦ let same : k ≡ n = omega arith in rw same (grind (arith, common_steps, both.0))
    ]

some_below : (n : ℕ) (p : ℕ → Bool) → none_below n p ≡ false → (k : ℕ) × (k < n) × (p k ≡ true)
some_below zero p e = absurd (cc)
some_below (suc n) p e =
    elim (cases_Bool (p n)) [
      | inl t ↦ (n, omega arith, t)
      | inr f ↦ let r = some_below n p (grind (arith, common_steps, e, f)) in (r.0, omega (arith, r.1), r.2)
    ]

-- nobody passes: no session does
pub nobody_is : (p : ℕ → Bool) (k : ℕ) → k < 128 → nobody p ≡ true → p k ≡ false
unfolding nobody
nobody_is p k lt e = below_none 128 p k lt e

-- or some session does
pub somebody_is : (p : ℕ → Bool) → nobody p ≡ false → (k : ℕ) × (k < 128) × (p k ≡ true)
unfolding nobody
somebody_is p e = some_below 128 p e

pub nobody_none : (p : ℕ → Bool) → ((j : ℕ) → p j ≡ false) → nobody p ≡ true
unfolding nobody
nobody_none p none = none_below-empty 128 p (λ j. grind (arith, common_steps, nat_tests, none j, bit_at-zero j))

-- some bit of a number other than 0 is set
pub some_bit : (n : ℕ) → n ≢ 0 → n < 2 ^ 128 → (k : ℕ) × (k < 128) × ((bit_at n k == 1) ≡ true)
some_bit zero some fits = absurd (some refl)
some_bit (suc n) some fits =
    let low = bit_at-trailing_zeros w128 (suc n) (omega arith) fits in
    (trailing_zeros w128 (suc n), low.0, grind (arith, common_steps, nat_tests, low.1))

-- a number is 0 where none of its bits is set
pub empty_is : (n : ℕ) (p : ℕ → Bool) → n < 2 ^ 128 → ((j : ℕ) → (bit_at n j == 1) ≡ p j) → (n == 0) ≡ nobody p
unfolding nobody
empty_is zero p fits same = sym (none_below-empty 128 p same)
empty_is (suc n) p fits same =
    let some = some_bit (suc n) (λ e. absurd (omega (arith, e))) fits in
    elim (cases_Bool (none_below 128 p)) [
      | inl e ↦ absurd (let f = below_none 128 p some.0 some.1 e in let t = sym (same some.0) ∙ some.2 in cc)
      | inr e ↦ let apart : (suc n == 0) ≡ false = grind (arith, common_steps, nat_tests) in apart ∙ sym e
    ]

pub has_below : (n k : ℕ) → n < 2 ^ 128 → (bit_at n k == 1) ≡ true → k < 128
has_below n k fits e = elim (cases_lt k 128) [ inl low ↦ low | inr high ↦ absurd (grind (arith, common_steps, nat_tests, bit_at_above n 128 k fits high)) ]

-- bits that are set in a and not in b
pub minus_has : (a b j : ℕ) → j < 128 → b < 2 ^ 128 → (bit_at (bit_and a (2 ^ 128 - 1 - b)) j == 1) ≡ ((bit_at a j == 1) && not (bit_at b j == 1))
minus_has a b j lt fits = grind (arith, common_steps, nat_tests, bit_at_and a (2 ^ 128 - 1 - b) j, bit_at_not w128 b j fits lt, bit_at-lt a j, bit_at-lt b j)

pub minus_fits : (a b : ℕ) → a < 2 ^ 128 → bit_and a b < 2 ^ 128
minus_fits a b fits = let le = and_le_l a b in omega (arith, le)
