-- The run of stored points that a search by halves finds for a listed value.
use Rattle.std.proofs.Common.{◌≡◌, inl, inr, ℕ, zero, suc, ◌+◌, ◌<◌, ◌≤◌, Bool, true, false, true≢false, not, ◌&&◌, List, [], ◌∷◌, length, get_or, refl, sym, ap, ◌∙◌, arith, nat_lt}
use Rattle.std.specs.Ordering.{is_lt, is_le, is_eq}
use Rattle.std.specs.declared.cmp.Ordering.{Ordering}
use Rattle.std.specs.declared.cmp.Ordering.TheVariants.{Less, Equal, Greater}
use Rattle.std.proofs.lemmas.Bool.{cases_lt}
use Rattle.std.proofs.lemmas.Bool.Decides.{nat_tests}
use Rattle.pg_values.specs.declared.value.Value.{Value}
use Rattle.bound_forms.specs.declared.partition_bound.Bound.{Bound}
use Rattle.bound_forms.specs.declared.point.Edge.{Edge}
use Rattle.bound_forms.specs.declared.point.Fill.TheVariants.{Min as WithMin}
use Rattle.bound_forms.specs.Listed.{only}
use Rattle.bound_forms.specs.Points.{point_of, point_order, end_of}
use Rattle.part_bounds.specs.Stored.{stored, width, passes, Splits}
use Rattle.cond_logic.specs.declared.cond.CompareOp.{CompareOp}
use Rattle.cond_logic.specs.declared.cond.CompareOp.TheVariants.{Eq, Ne, Lt, Le, Gt, Ge}
use Rattle.cond_logic.specs.Truths.{passes_by}
use Rattle.prune_steps.specs.Bits.{in_run}
use Rattle.prune_steps.specs.Lists.{looked_for, RunOf, CanAskList}
use Rattle.prune_steps.proofs.Runs.{by_count}

end_is : (bounds : List Bound) (values : List Value) → CanAskList bounds values → 0 < length (stored bounds) → end_of (width bounds) 1 WithMin values ≡ point_of (only values ∷ [])
end_is bounds values ask some = by values ask.single
  where
    by : (vs : List Value) → length vs ≡ 1 → end_of (width bounds) 1 WithMin vs ≡ point_of (only vs ∷ [])
    by [] one = absurd (omega (arith, one))
    by (v ∷ []) one = rw (ask.two some) refl
    by (v ∷ (w ∷ vs)) one = absurd (omega (arith, one))

module _ (bounds : List Bound) (values : List Value) (ask : CanAskList bounds values) where
  abbrev pt : List Edge
  pt = point_of (only values ∷ [])

  below : (a i : ℕ) (d : List Edge) → Splits (passes false (end_of (width bounds) 1 WithMin values)) (stored bounds) a → i < length (stored bounds) → is_lt (point_order (get_or (stored bounds) i d) pt) ≡ nat_lt i a
  below a i d s lt = ap (λ q. is_lt (point_order (get_or (stored bounds) i d) q)) (sym (end_is bounds values ask (omega (arith, lt)))) ∙ by_count (passes false (end_of (width bounds) 1 WithMin values)) (stored bounds) a i d s lt

  up_to : (b i : ℕ) (d : List Edge) → Splits (passes true (end_of (width bounds) 1 WithMin values)) (stored bounds) b → i < length (stored bounds) → is_le (point_order (get_or (stored bounds) i d) pt) ≡ nat_lt i b
  up_to b i d s lt = ap (λ q. is_le (point_order (get_or (stored bounds) i d) q)) (sym (end_is bounds values ask (omega (arith, lt)))) ∙ by_count (passes true (end_of (width bounds) 1 WithMin values)) (stored bounds) b i d s lt

  from_start : (i n : ℕ) → nat_lt i n ≡ in_run 0 n i
  from_start i n = by (nat_lt i 0) (grind (arith, nat_tests))
    where
      by : (t : Bool) → t ≡ false → nat_lt i n ≡ (not t && nat_lt i n)
      by false e = refl
      by true e = cc

  pub run_below : (op : CompareOp) (a : ℕ) → looked_for op ≡ Lt → Splits (passes false (end_of (width bounds) 1 WithMin values)) (stored bounds) a → RunOf bounds op (only values) 0 a
  run_below op a is s = record {
    order = omega arith;
    within = s.within;
    each = λ i d lt. ap (λ o. passes_by o (point_order (get_or (stored bounds) i d) pt)) is ∙ below a i d s lt ∙ from_start i a;
  }

  pub run_up_to : (op : CompareOp) (b : ℕ) → looked_for op ≡ Le → Splits (passes true (end_of (width bounds) 1 WithMin values)) (stored bounds) b → RunOf bounds op (only values) 0 b
  run_up_to op b is s = record {
    order = omega arith;
    within = s.within;
    each = λ i d lt. ap (λ o. passes_by o (point_order (get_or (stored bounds) i d) pt)) is ∙ up_to b i d s lt ∙ from_start i b;
  }

  eq_is : (o : Ordering) → is_eq o ≡ (not (is_lt o) && is_le o)
  eq_is Less = refl
  eq_is Equal = refl
  eq_is Greater = refl

  lt_le : (o : Ordering) → is_lt o ≡ true → is_le o ≡ true
  lt_le Less h = refl
  lt_le Equal h = cc
  lt_le Greater h = cc

  pub run_equal : (op : CompareOp) (a b : ℕ) → looked_for op ≡ Eq → Splits (passes false (end_of (width bounds) 1 WithMin values)) (stored bounds) a → Splits (passes true (end_of (width bounds) 1 WithMin values)) (stored bounds) b → RunOf bounds op (only values) a b
  run_equal op a b is s t = record {
    order = elim (cases_lt b a) [
      | inl less ↦
          let w = s.within in
          let here : b < length (stored bounds) = omega (arith, less, w) in
          let low = below a b [] s here in
          let high = up_to b b [] t here in
          let yes : nat_lt b a ≡ true = grind (arith, nat_tests, less) in
          let no : nat_lt b b ≡ false = grind (arith, nat_tests) in
          absurd (true≢false (sym (lt_le (point_order (get_or (stored bounds) b []) pt) (low ∙ yes)) ∙ high ∙ no))
      | inr more ↦ more
    ];
    within = t.within;
    each = λ i d lt. ap (λ o. passes_by o (point_order (get_or (stored bounds) i d) pt)) is ∙ eq_is (point_order (get_or (stored bounds) i d) pt) ∙ rw (below a i d s lt, up_to b i d t lt) refl;
  }
