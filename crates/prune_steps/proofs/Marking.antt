-- Children that are added one after the other.
use Rattle.std.proofs.Common.{◌≡◌, inl, inr, ℕ, suc, ◌+◌, ◌<◌, ◌≤◌, Bool, true, false, ◌&&◌, ◌||◌, List, get_or, refl, sym, ap, ◌∙◌, arith}
use Rattle.std.specs.Prelude.{◌==◌, Some, slice_get}
use Rattle.std.proofs.lemmas.Bool.{cases_lt}
use Rattle.std.proofs.lemmas.Bool.Decides.{nat_tests}
use Rattle.std.proofs.lemmas.Option.{get_or_from_slice_get}
use Rattle.bound_forms.specs.declared.partition_bound.Bound.{Bound}
use Rattle.bound_forms.specs.declared.partition_bound.Bound.TheVariants.{Default}
use Rattle.prune_steps.specs.Bits.{bit, AreBits}
use Rattle.prune_steps.specs.Lists.{is_counted, count_at}

-- the test of the child of this number
pub test_at : (f : Bound → Bool) (bounds : List Bound) (i : ℕ) (b : Bound) (hit : Bool) → slice_get bounds i ≡ Some b → hit ≡ f b → hit ≡ f (get_or bounds i Default)
test_at f bounds i b hit at is = is ∙ ap f (sym (get_or_from_slice_get bounds i b Default at))

or_false : (t : Bool) → (t || false) ≡ t
or_false true = refl
or_false false = refl

pub done_more : (f : ℕ → Bool) (initial old new : List ℕ) (i : ℕ) (hit : Bool) → hit ≡ f i → AreBits 1024 new (λ k. bit old k || ((k == i) && hit))
    → ((j : ℕ) → j < i → j < 1024 → bit old j ≡ (bit initial j || f j)) → ((j : ℕ) → i ≤ j → j < 1024 → bit old j ≡ bit initial j)
    → (j : ℕ) → j < i + 1 → j < 1024 → bit new j ≡ (bit initial j || f j)
done_more f initial old new i hit is bits done rest j lt small = elim (cases_lt j i) [
  | inl before ↦
      let no : (j == i) ≡ false = grind (arith, nat_tests, before) in
      bits j small ∙ rw no (or_false (bit old j) ∙ done j before small)
  | inr at ↦
      let same : j ≡ i = omega (arith, lt, at) in
      let there : (j == i) ≡ true = grind (arith, nat_tests, same) in
      bits j small ∙ rw (there, rest j at small, is) (ap (λ k. bit initial j || f k) (sym same))
]

pub rest_more : (initial old new : List ℕ) (i : ℕ) (hit : Bool) → AreBits 1024 new (λ k. bit old k || ((k == i) && hit)) → ((j : ℕ) → i ≤ j → j < 1024 → bit old j ≡ bit initial j)
    → (j : ℕ) → i + 1 ≤ j → j < 1024 → bit new j ≡ bit initial j
rest_more initial old new i hit bits rest j le small =
    let no : (j == i) ≡ false = grind (arith, nat_tests, le) in
    bits j small ∙ rw no (or_false (bit old j) ∙ rest j (omega (arith, le)) small)

pub counted_here : (inside : Bool) (counts : List ℕ) (bounds : List Bound) (i : ℕ) (b : Bound) (n : ℕ) (hit : Bool) → slice_get bounds i ≡ Some b → n ≡ count_at counts i → hit ≡ is_counted inside n b → hit ≡ is_counted inside (count_at counts i) (get_or bounds i Default)
counted_here inside counts bounds i b n hit at count is = is ∙ ap (λ m. is_counted inside m b) count ∙ ap (is_counted inside (count_at counts i)) (sym (get_or_from_slice_get bounds i b Default at))
