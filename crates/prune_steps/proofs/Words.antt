-- The words of a set of children, bit by bit.
use Rattle.std.proofs.Common.{◌≡◌, ◌≢◌, inl, inr, ℕ, ◌+◌, ◌*◌, ◌/◌, ◌%◌, ◌-◌, ◌^◌, ◌<◌, ◌≤◌, Bool, true, false, ◌&&◌, ◌||◌, List, length, get_or, refl, sym, ap, ◌∙◌, arith, bit_and, bit_or, slice_set}
use Rattle.std.specs.Prelude.{◌==◌, if◌then◌else◌, nat_lt}
use Rattle.std.specs.Int.{bit_at, w128, trailing_zeros}
use Rattle.std.proofs.lemmas.Grind.{common_steps}
use Rattle.std.proofs.lemmas.Bool.{cases_eq, cases_lt}
use Rattle.std.proofs.lemmas.Bool.Decides.{nat_tests}
use Rattle.std.proofs.lemmas.List.{get_or-set_same, get_or-set_other}
use Rattle.std.proofs.lemmas.Nat.{shr-shr, shr_le}
use Rattle.std.proofs.lemmas.Nat.Bits.{bit_at-zero, bit_at_ones, bit_at_above, bit_at-trailing_zeros}
use Rattle.pg_values.proofs.Bits.{set_has, or_has, and_has}
use Rattle.prune_steps.specs.Bits.{bit, in_run, AreBits, NoneIn, FirstFrom}

-- a child's word
within : (k : ℕ) → k < 1024 → k / 128 < 8
within k low = omega (arith, low)

pub filled : (words : List ℕ) (w : ℕ) (all : Bool) → ((j : ℕ) → j < 8 → get_or words j 0 ≡ w) → w ≡ (if all then 2 ^ 128 - 1 else 0) → AreBits 1024 words (λ k. all)
filled words w true each is k low = ap (λ n. bit_at n (k % 128) == 1) (each (k / 128) (within k low) ∙ is) ∙ ap (λ b. b == 1) (bit_at_ones 128 (k % 128) (omega arith))
filled words w false each is k low = ap (λ n. bit_at n (k % 128) == 1) (each (k / 128) (within k low) ∙ is) ∙ ap (λ b. b == 1) (bit_at-zero (k % 128))

pub met : (old other new : List ℕ) → ((j : ℕ) → j < 8 → get_or new j 0 ≡ bit_and (get_or old j 0) (get_or other j 0)) → AreBits 1024 new (λ k. bit old k && bit other k)
met old other new each k low = ap (λ n. bit_at n (k % 128) == 1) (each (k / 128) (within k low)) ∙ and_has (get_or old (k / 128) 0) (get_or other (k / 128) 0) (k % 128)

pub joined : (old other new : List ℕ) → ((j : ℕ) → j < 8 → get_or new j 0 ≡ bit_or (get_or old j 0) (get_or other j 0)) → AreBits 1024 new (λ k. bit old k || bit other k)
joined old other new each k low = ap (λ n. bit_at n (k % 128) == 1) (each (k / 128) (within k low)) ∙ or_has (get_or old (k / 128) 0) (get_or other (k / 128) 0) (k % 128)

-- ---- one child more

turned : (b a : Bool) → (a || b) ≡ (b || (a && true))
turned true true = refl
turned true false = refl
turned false true = refl
turned false false = refl

other_child : (k child : ℕ) → k ≡ child → k / 128 ≡ child / 128
other_child k child same = ap (λ n. n / 128) same

is_not : (m n : ℕ) → m ≢ n → (m == n) ≡ false
is_not m n apart = grind (arith, common_steps, nat_tests, apart)

or_false : (b : Bool) → (b || false) ≡ b
or_false true = refl
or_false false = refl

-- the child's bit is set in its word
abbrev pub with_bit : ℕ → ℕ → ℕ
with_bit word place = bit_or word (1 * 2 ^ place % 2 ^ 128)

pub added : (old : List ℕ) (child : ℕ) → child < 1024 → length old ≡ 8
    → AreBits 1024 (slice_set old (child / 128) (with_bit (get_or old (child / 128) 0) (child % 128))) (λ k. bit old k || ((k == child) && true))
added old child lt eight k low = elim (cases_eq (k / 128) (child / 128)) [
  | inl same ↦
      let word : get_or (slice_set old (child / 128) (with_bit (get_or old (child / 128) 0) (child % 128))) (k / 128) 0 ≡ with_bit (get_or old (child / 128) 0) (child % 128) =
      ap (λ j. get_or (slice_set old (child / 128) (with_bit (get_or old (child / 128) 0) (child % 128))) j 0) same ∙ get_or-set_same old (child / 128) (with_bit (get_or old (child / 128) 0) (child % 128)) 0 (omega (arith, eight, within child lt)) in
      let has : (bit_at (with_bit (get_or old (child / 128) 0) (child % 128)) (k % 128) == 1) ≡ ((k % 128 == child % 128) || (bit_at (get_or old (child / 128) 0) (k % 128) == 1)) = set_has (get_or old (child / 128) 0) (child % 128) (k % 128) (omega arith) in
      let one : (k % 128 == child % 128) ≡ (k == child) = grind (arith, common_steps, nat_tests, same) in
      ap (λ n. bit_at n (k % 128) == 1) word ∙ has ∙ ap (λ b. b || (bit_at (get_or old (child / 128) 0) (k % 128) == 1)) one ∙ ap (λ j. (k == child) || (bit_at (get_or old j 0) (k % 128) == 1)) (sym same) ∙ turned (bit old k) (k == child)
  | inr other ↦
      let word : get_or (slice_set old (child / 128) (with_bit (get_or old (child / 128) 0) (child % 128))) (k / 128) 0 ≡ get_or old (k / 128) 0 =
      get_or-set_other old (child / 128) (k / 128) (with_bit (get_or old (child / 128) 0) (child % 128)) 0 other in
      let none : (k == child) ≡ false = is_not k child (λ same. other (other_child k child same)) in
      ap (λ n. bit_at n (k % 128) == 1) word ∙ sym (ap (λ b. bit old k || (b && true)) none ∙ or_false (bit old k))
]

-- ---- a run

pub run_more : (from to child k : ℕ) → from ≤ child → child < to → {b : Bool} → b ≡ (in_run from child k && nat_lt k to) → (b || ((k == child) && true)) ≡ (in_run from (child + 1) k && nat_lt k to)
run_more from to child k le lt is = grind (arith, common_steps, nat_tests, le, lt, is)

pub run_done : (from to child k : ℕ) → to ≤ child → (in_run from child k && nat_lt k to) ≡ in_run from to k
run_done from to child k le = grind (arith, common_steps, nat_tests, le)

-- ---- the first from a number on

pub none_on : (words : List ℕ) (from at to : ℕ) → NoneIn words from at → NoneIn words at to → NoneIn words from to
none_on words from at to before behind k le lt = elim (cases_lt k at) [ inl low ↦ before k le low | inr high ↦ behind k high lt ]

-- the child's word, without the children before it
abbrev pub left_of : List ℕ → ℕ → ℕ
left_of words at = get_or words (at / 128) 0 / 2 ^ (at % 128)

left_bit : (words : List ℕ) (at t : ℕ) → at % 128 + t < 128 → bit words (at + t) ≡ (bit_at (left_of words at) t == 1)
left_bit words at t low =
    let word : (at + t) / 128 ≡ at / 128 = omega (arith, low) in
    let place : (at + t) % 128 ≡ at % 128 + t = omega (arith, low) in
    ap (λ n. bit_at (get_or words n 0) ((at + t) % 128) == 1) word ∙ ap (λ n. bit_at (get_or words (at / 128) 0) n == 1) place ∙ ap (λ n. n % 2 == 1) (sym (shr-shr (get_or words (at / 128) 0) (at % 128) t))

pub none_left : (words : List ℕ) (at : ℕ) → left_of words at ≡ 0 → NoneIn words at ((at / 128 + 1) * 128)
none_left words at none k le lt =
    let there : k ≡ at + (k - at) = omega (arith, le) in
    ap (bit words) there ∙ left_bit words at (k - at) (omega (arith, le, lt)) ∙ ap (λ n. bit_at n (k - at) == 1) none ∙ ap (λ b. b == 1) (bit_at-zero (k - at))

module _ (words : List ℕ) (at : ℕ) (fits : get_or words (at / 128) 0 < 2 ^ 128) (some : 0 < left_of words at) where
  lowest : (trailing_zeros w128 (left_of words at) < 128) × (bit_at (left_of words at) (trailing_zeros w128 (left_of words at)) ≡ 1) × ((j : ℕ) → j < trailing_zeros w128 (left_of words at) → bit_at (left_of words at) j ≡ 0)
  lowest = let small = shr_le (get_or words (at / 128) 0) (at % 128) in bit_at-trailing_zeros w128 (left_of words at) some (omega (arith, fits, small))

  lowest_within : at % 128 + trailing_zeros w128 (left_of words at) < 128
  lowest_within =
      let place = at % 128 + trailing_zeros w128 (left_of words at) in
      let one : bit_at (get_or words (at / 128) 0) place ≡ 1 = ap (λ n. n % 2) (sym (shr-shr (get_or words (at / 128) 0) (at % 128) (trailing_zeros w128 (left_of words at)))) ∙ lowest.1 in
      elim (cases_lt place 128) [
        | inl low ↦ low
        | inr high ↦ absurd (let no = sym one ∙ bit_at_above (get_or words (at / 128) 0) 128 place fits high in omega (arith, no))
      ]

  pub lowest_first : at < 1024 → FirstFrom words at (at + trailing_zeros w128 (left_of words at))
  lowest_first low = record {
    behind = omega arith;
    within = let near = lowest_within in omega (arith, low, near);
    in_set = left_bit words at (trailing_zeros w128 (left_of words at)) lowest_within ∙ ap (λ n. n == 1) lowest.1;
    none_before = λ k le lt.
        let there : k ≡ at + (k - at) = omega (arith, le) in
        let near = lowest_within in
        ap (bit words) there ∙ left_bit words at (k - at) (omega (arith, le, lt, near)) ∙ ap (λ n. n == 1) (lowest.2 (k - at) (omega (arith, le, lt)));
  }

pub first_behind : (words : List ℕ) (from at k : ℕ) → from ≤ at → NoneIn words from at → FirstFrom words at k → FirstFrom words from k
first_behind words from at k le before first = record {
  behind = let further = first.behind in omega (arith, le, further);
  within = first.within;
  in_set = first.in_set;
  none_before = none_on words from at k before first.none_before;
}
