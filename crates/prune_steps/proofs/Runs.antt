-- The run of a chain: child by child, what the chain keeps.
use Rattle.std.proofs.Common.{◌≡◌, inl, inr, ℕ, ◌+◌, ◌-◌, ◌*◌, ◌/◌, ◌%◌, ◌^◌, ◌<◌, ◌≤◌, Bool, true, false, true≢false, not, ◌&&◌, ◌||◌, List, length, get_or, refl, subst, sym, ap, ◌∙◌, arith, add-one, nat_lt}
use Rattle.std.specs.Prelude.{◌==◌}
use Rattle.std.specs.List.{list_any, All}
use Rattle.std.specs.Ordering.{is_gt, is_lt, is_le}
use Rattle.std.specs.declared.cmp.Ordering.{Ordering}
use Rattle.std.specs.declared.cmp.Ordering.TheVariants.{Less, Equal, Greater}
use Rattle.std.proofs.Math.Nat.{two-pow-succ}
use Rattle.std.proofs.Math.Pow.{pow-lt}
use Rattle.std.proofs.lemmas.Bool.{cases_lt}
use Rattle.std.proofs.lemmas.Bool.Decides.{nat_tests}
use Rattle.std.proofs.lemmas.List.Folds.{list_any_none, list_any_at}
use Rattle.bound_forms.specs.declared.partition_bound.Bound.{Bound}
use Rattle.bound_forms.specs.declared.partition_bound.Bound.TheVariants.{Range, Default}
use Rattle.bound_forms.specs.declared.point.Edge.{Edge}
use Rattle.bound_forms.specs.declared.point.Fill.{Fill}
use Rattle.pg_values.specs.declared.value.Value.{Value}
use Rattle.bound_forms.specs.Points.{point_order, end_of}
use Rattle.bound_forms.specs.Accepts.{is_default}
use Rattle.part_bounds.specs.Stored.{range_points, InRow, passes, in_sibling, upper_of, Splits}
use Rattle.bound_forms.proofs.PointOrder.{point_total}
use Rattle.bound_forms.proofs.OverlapLaws.{overlap_of_filled}
use Rattle.bound_forms.proofs.TotalOrder.{le_trans, lt-gt, le-not_gt, not_gt-le}
use Rattle.part_bounds.proofs.StoredLaws.{ChildAt, RangeAt, child_at, filled_at, is_odd, in_odd, upper_is, short}
use Rattle.prune_steps.specs.Bits.{bit, in_run, AreBits}
use Rattle.prune_steps.specs.Chains.{Chain, chain_keeps, is_gap}
use Rattle.prune_steps.specs.Runs.{GapIn, NoGapIn, Ends}

-- ---- a point against a count

-- a point passes where its number is below the count
pub by_count : {A : Type 0} (P : A → Bool) (xs : List A) (n k : ℕ) (d : A) → Splits P xs n → k < length xs → P (get_or xs k d) ≡ nat_lt k n
by_count P xs n k d s lt = elim (cases_lt k n) [
  | inl below ↦ s.before k d below ∙ grind (arith, nat_tests)
  | inr above ↦ s.behind k d above lt ∙ grind (arith, nat_tests)
]

gt-not_le : (r : Ordering) → is_gt r ≡ not (is_le r)
gt-not_le Less = refl
gt-not_le Equal = refl
gt-not_le Greater = refl

-- the two ends of the run
run_of : (a b k : ℕ) → nat_lt (2 * k) b && not (nat_lt (2 * k + 1) a) ≡ in_run (a / 2) ((b + 1) / 2) k
run_of a b k = grind (arith, nat_tests)

-- ---- ranges

pub range_kept : (bounds : List Bound) (short : Bool) (c : Chain) (a b k : ℕ) (l u : List Edge) → InRow bounds → Ends bounds c a b → RangeAt bounds k l u
    → chain_keeps bounds short c (Range l u) ≡ in_run (a / 2) ((b + 1) / 2) k
range_kept bounds short c a b k l u h e r =
    let w = r.within in
    let low : is_lt (point_order l c.to) ≡ nat_lt (2 * k) b = rw (r.low l) at (by_count (passes false c.to) (range_points bounds) b (2 * k) l e.end_is (omega (arith, w))) in
    let high : is_le (point_order u c.from) ≡ nat_lt (2 * k + 1) a = rw (r.high u) at (by_count (passes true c.from) (range_points bounds) a (2 * k + 1) u e.start_is w) in
    overlap_of_filled l u c.from c.to (filled_at bounds h k l u r) (e.filled (omega (arith, w))) ∙ rw (low, gt-not_le (point_order u c.from), high) (run_of a b k)

-- ---- the default

pub short_kept : (bounds : List Bound) (short : Bool) (c : Chain) → short ≡ true → true ≡ chain_keeps bounds short c Default
short_kept bounds short c e = rw e refl

pub even_kept : (bounds : List Bound) (short : Bool) (c : Chain) (a b : ℕ) → Ends bounds c a b → a % 2 ≡ 0 → true ≡ chain_keeps bounds short c Default
even_kept bounds short c a b e even = rw (in_odd bounds c.from a e.start_is, even) (by short (list_any (is_gap bounds c) bounds))
  where
    by : (s t : Bool) → true ≡ s || true || t
    by true t = refl
    by false t = refl

-- points that are neither below nor above one another lie in the same siblings
same_side : (p q r : List Edge) → is_gt (point_order p q) ≡ false → is_gt (point_order q p) ≡ false → is_le (point_order r p) ≡ true → is_le (point_order r q) ≡ true
same_side p q r h k e = not_gt-le (point_order r q) (le_trans point_total r p q (le-not_gt (point_order r p) e) h)

same_splits : (xs : List (List Edge)) (p q : List Edge) (n : ℕ) → is_gt (point_order p q) ≡ false → is_gt (point_order q p) ≡ false → Splits (passes true p) xs n → Splits (passes true q) xs n
same_splits xs p q n h k s = record {
  within = s.within;
  before = λ i d lt. same_side p q (get_or xs i d) h k (s.before i d lt);
  behind = λ i d from lt. by (is_le (point_order (get_or xs i d) q)) refl (s.behind i d from lt) (same_side q p (get_or xs i d) k h);
}
  where
    by : {y z : Bool} (t : Bool) → z ≡ t → y ≡ false → (z ≡ true → y ≡ true) → t ≡ false
    by false e f g = refl
    by true e f g = absurd (true≢false (sym (g e) ∙ f))

one_odd : (a : ℕ) → (a % 2 ≡ 0 → ⊥) → a % 2 ≡ 1
one_odd a h = omega (arith, h)

is_one : (a : ℕ) → (a % 2 ≡ 0 → ⊥) → is_odd a ≡ true
is_one a h = rw (one_odd a h) refl

-- a range of the run whose upper point lies in no sibling is a gap
gap_found : (bounds : List Bound) (c : Chain) (a b : ℕ) → InRow bounds → Ends bounds c a b → (a % 2 ≡ 0 → ⊥) → GapIn bounds (a / 2) (b / 2) → list_any (is_gap bounds c) bounds ≡ true
gap_found bounds c a b h e odd g = by (child_at bounds h k within)
  where
    k : ℕ
    k = g.0

    within : g.0 < length bounds
    within = let w = e.end_is.within in let lt = g.2 in let m = short bounds in omega (arith, w, lt, m)

    by : ChildAt bounds g.0 → list_any (is_gap bounds c) bounds ≡ true
    by (ChildAt.ranged l u r) =
        let w = r.within in
        let from = g.1 in
        let lt = g.2 in
        let none : in_sibling bounds u ≡ false = rw (upper_is bounds g.0 l u Default r) at g.3 in
        let start : is_le (point_order u c.from) ≡ false = rw (r.high u) at (e.start_is.behind (2 * g.0 + 1) u (omega (arith, from, odd)) w) in
        let end : is_lt (point_order u c.to) ≡ true = rw (r.high u) at (e.end_is.before (2 * g.0 + 1) u (omega (arith, lt))) in
        let over : is_gt (point_order u c.from) ≡ true = rw (gt-not_le (point_order u c.from), start) refl in
        let from_le : is_le (point_order c.from u) ≡ true = lt_le (point_order c.from u) (lt-gt point_total c.from u ∙ over) in
        let here : is_gap bounds c (get_or bounds g.0 Default) ≡ true = rw (r.is Default, none, from_le, end) refl in
        list_any_at (is_gap bounds c) bounds g.0 Default within here
      where
        lt_le : (r : Ordering) → is_lt r ≡ true → is_le r ≡ true
        lt_le Less h = refl
        lt_le Equal h = cc
        lt_le Greater h = cc
    by (ChildAt.as_default r) = let w = e.end_is.within in let lt = g.2 in let end = r.end in absurd (omega (arith, w, lt, end))

-- where each upper point of the run lies in a sibling, there is no gap
no_gap : (bounds : List Bound) (c : Chain) (a b : ℕ) → InRow bounds → Ends bounds c a b → (a % 2 ≡ 0 → ⊥) → NoGapIn bounds (a / 2) (b / 2) → list_any (is_gap bounds c) bounds ≡ false
no_gap bounds c a b h e odd none = list_any_none (is_gap bounds c) bounds each
  where
    first : (s t v : Bool) → s ≡ true → not s && t && v ≡ false
    first true t v g = refl
    first false t v g = cc

    last : (s t v : Bool) → v ≡ false → s && t && v ≡ false
    last true true v g = g
    last true false v g = refl
    last false t v g = refl

    middle : (s t v : Bool) → t ≡ false → s && t && v ≡ false
    middle true t v g = rw g refl
    middle false t v g = refl

    ranged : (k : ℕ) (l u : List Edge) → RangeAt bounds k l u → is_gap bounds c (Range l u) ≡ false
    ranged k l u r = elim (cases_lt k (b / 2)) [
      | inl lt ↦ elim (cases_lt k (a / 2)) [
        | inl early ↦ before (is_le (point_order c.from u)) refl early
        | inr from ↦ first (in_sibling bounds u) _ _ (sym (ap (in_sibling bounds) (upper_is bounds k l u Default r)) ∙ none k from lt)
      ]
      | inr past ↦
          let end : is_lt (point_order u c.to) ≡ false = rw (r.high u) at (e.end_is.behind (2 * k + 1) u (omega (arith, past)) r.within) in
          last (not (in_sibling bounds u)) (is_le (point_order c.from u)) (is_lt (point_order u c.to)) end
    ]
      where
        before : (t : Bool) → is_le (point_order c.from u) ≡ t → k < a / 2 → is_gap bounds c (Range l u) ≡ false
        before false f early = middle (not (in_sibling bounds u)) (is_le (point_order c.from u)) (is_lt (point_order u c.to)) f
        before true f early =
            let start : is_le (point_order u c.from) ≡ true = rw (r.high u) at (e.start_is.before (2 * k + 1) u (omega (arith, early))) in
            let s = same_splits (range_points bounds) c.from u a (le-not_gt (point_order c.from u) f) (le-not_gt (point_order u c.from) start) e.start_is in
            first (in_sibling bounds u) _ _ (in_odd bounds u a s ∙ is_one a odd)

    each : All (λ x. is_gap bounds c x ≡ false) bounds
    each k d lt = by (child_at bounds h k lt)
      where
        by : ChildAt bounds k → is_gap bounds c (get_or bounds k d) ≡ false
        by (ChildAt.ranged l u r) = rw (r.is d) (ranged k l u r)
        by (ChildAt.as_default r) = rw (r.is d) refl

pub gap_kept : (bounds : List Bound) (short : Bool) (c : Chain) (a b : ℕ) (result : Bool) → InRow bounds → Ends bounds c a b → short ≡ false → (a % 2 ≡ 0 → ⊥) → (result ≡ true → GapIn bounds (a / 2) (b / 2)) → (result ≡ false → NoGapIn bounds (a / 2) (b / 2))
    → result ≡ chain_keeps bounds short c Default
gap_kept bounds short c a b result h e long odd some none = rw (long, in_odd bounds c.from a e.start_is, is_one a odd) (by result refl)
  where
    by : (t : Bool) → result ≡ t → result ≡ list_any (is_gap bounds c) bounds
    by true f = f ∙ sym (gap_found bounds c a b h e odd (some f))
    by false f = f ∙ sym (no_gap bounds c a b h e odd (none f))

-- ---- child by child

no_run : (a b k m : ℕ) → b ≤ m → 2 * k ≡ m → in_run (a / 2) ((b + 1) / 2) k ≡ false
no_run a b k m h e = by (nat_lt k (a / 2)) (nat_lt k ((b + 1) / 2)) (grind (arith, nat_tests, h, e))
  where
    by : (s t : Bool) → t ≡ false → not s && t ≡ false
    by true t f = refl
    by false t f = f

pub child_kept : (bounds : List Bound) (short : Bool) (c : Chain) (a b k : ℕ) (keeps : Bool) → InRow bounds → Ends bounds c a b → k < length bounds → keeps ≡ chain_keeps bounds short c Default
    → in_run (a / 2) ((b + 1) / 2) k || (is_default (get_or bounds k Default) && keeps) ≡ chain_keeps bounds short c (get_or bounds k Default)
child_kept bounds short c a b k keeps h e lt is = by (child_at bounds h k lt)
  where
    or_no : (t : Bool) → t || false ≡ t
    or_no true = refl
    or_no false = refl

    by : ChildAt bounds k → in_run (a / 2) ((b + 1) / 2) k || (is_default (get_or bounds k Default) && keeps) ≡ chain_keeps bounds short c (get_or bounds k Default)
    by (ChildAt.ranged l u r) = rw (r.is Default) (or_no (in_run (a / 2) ((b + 1) / 2) k) ∙ sym (range_kept bounds short c a b k l u h e r))
    by (ChildAt.as_default r) = let none = no_run a b k (length (range_points bounds)) e.end_is.within r.end in rw (r.is Default, none) is

-- the last child alone can be the default
pub last_is : (bounds : List Bound) (k n : ℕ) (x : Bound) → InRow bounds → k < length bounds → n ≡ length bounds → x ≡ get_or bounds (n - 1) x → x ≡ Default → is_default (get_or bounds k Default) ≡ (k == n - 1)
last_is bounds k n x h lt long at is = by (child_at bounds h k lt) (child_at bounds h (n - 1) (omega (arith, lt, long)))
  where
    wrong : {l u : List Edge} → RangeAt bounds (n - 1) l u → ⊥
    wrong r = let e : Range _ _ ≡ Default = sym (r.is x) ∙ sym at ∙ is in true≢false (sym (ap is_default e))

    by : ChildAt bounds k → ChildAt bounds (n - 1) → is_default (get_or bounds k Default) ≡ (k == n - 1)
    by (ChildAt.ranged l u r) (ChildAt.as_default s) =
        let w = r.within in
        let end = s.end in
        let differs : (k == n - 1) ≡ false = grind (arith, nat_tests, w, end) in
        rw (r.is Default, differs) refl
    by (ChildAt.as_default r) (ChildAt.as_default s) =
        let end = r.end in
        let last = s.end in
        let same : (k == n - 1) ≡ true = grind (arith, nat_tests, end, last) in
        rw (r.is Default, same) refl
    by r (ChildAt.ranged l u s) = absurd (wrong s)

pub none_is : (bounds : List Bound) (k n : ℕ) (x : Bound) → InRow bounds → k < length bounds → n ≡ length bounds → x ≡ get_or bounds (n - 1) x → (x ≡ Default → ⊥) → is_default (get_or bounds k Default) ≡ false
none_is bounds k n x h lt long at other = by (child_at bounds h k lt) (child_at bounds h (n - 1) (omega (arith, lt, long)))
  where
    by : ChildAt bounds k → ChildAt bounds (n - 1) → is_default (get_or bounds k Default) ≡ false
    by (ChildAt.ranged l u r) s = rw (r.is Default) refl
    by (ChildAt.as_default r) (ChildAt.ranged l u s) = let end = r.end in let w = s.within in absurd (omega (arith, end, w, lt, long))
    by (ChildAt.as_default r) (ChildAt.as_default s) = absurd (other (at ∙ s.is x))

-- ---- the cost

pub at_most : (start now m d : ℕ) → start ≤ now → 2 ^ (now - start) ≤ 2 * m + 2 → 2 * m + 2 < 2 ^ (d + 1) → now ≤ start + d
at_most start now m d later cost most = elim (cases_lt (d + 1) (now - start)) [
  | inl lt ↦ let p : 2 ^ (d + 1) < 2 ^ (now - start) = pow-lt lt in absurd (omega (arith, p, cost, most))
  | inr le ↦ elim (cases_lt (now - start) (d + 1)) [
    | inl lt ↦ omega (arith, lt, later)
    | inr ge ↦ let e : now - start ≡ d + 1 = omega (arith, le, ge) in absurd (omega (arith, ap (λ t. 2 ^ t) e, cost, most))
  ]
]

pub at_least : (start now m d : ℕ) → start ≤ now → m + 2 ≤ 2 * 2 ^ (now - start) → 2 ^ d ≤ m + 1 → start + d ≤ now
at_least start now m d later many few = elim (cases_lt (now - start) d) [
  | inl short ↦ elim (cases_lt (now - start + 1) d) [
    | inl lt ↦ let p : 2 ^ (now - start + 1) < 2 ^ d = pow-lt lt in absurd (omega (arith, p, twice (now - start), many, few))
    | inr ge ↦ let e : now - start + 1 ≡ d = omega (arith, short, ge) in absurd (omega (arith, ap (λ t. 2 ^ t) e, twice (now - start), many, few))
  ]
  | inr ge ↦ omega (arith, ge, later)
]
  where
    twice : (t : ℕ) → 2 ^ (t + 1) ≡ 2 ^ t + 2 ^ t
    twice t = rw (add-one, two-pow-succ t) refl

-- a child of the run is a range
pub run_child : (bounds : List Bound) (to i : ℕ) → InRow bounds → 2 * to ≤ length (range_points bounds) → i < to → (i < length bounds) × (is_default (get_or bounds i Default) ≡ false)
run_child bounds to i h run lt = (within, by (child_at bounds h i within))
  where
    within : i < length bounds
    within = let m = short bounds in omega (arith, m, run, lt)

    by : ChildAt bounds i → is_default (get_or bounds i Default) ≡ false
    by (ChildAt.ranged l u r) = rw (r.is Default) refl
    by (ChildAt.as_default r) = let end = r.end in absurd (omega (arith, end, run, lt))

pub one_more : (bounds : List Bound) (from i : ℕ) → NoGapIn bounds from i → in_sibling bounds (upper_of (get_or bounds i Default)) ≡ true → NoGapIn bounds from (i + 1)
one_more bounds from i none here k le lt = elim (cases_lt k i) [
  | inl below ↦ none k le below
  | inr above ↦ let e : k ≡ i = omega (arith, lt, above) in rw e here
]

-- the default added
pub added : (bounds : List Bound) (old new : List ℕ) (n : ℕ) (x : Bound) (keeps : Bool) → InRow bounds → n ≡ length bounds → length bounds ≤ 1024 → x ≡ get_or bounds (n - 1) x → x ≡ Default → keeps ≡ true
    → AreBits 1024 new (λ k. bit old k || (k == n - 1)) → AreBits (length bounds) new (λ k. bit old k || (is_default (get_or bounds k Default) && keeps))
added bounds old new n x keeps h long small at is kept bits k lt = bits k (omega (arith, lt, small)) ∙ rw (last_is bounds k n x h lt long at is, kept) (by (bit old k) (k == n - 1))
  where
    by : (s t : Bool) → s || t ≡ s || (t && true)
    by true t = refl
    by false true = refl
    by false false = refl

pub not_added : (bounds : List Bound) (old : List ℕ) (n : ℕ) (x : Bound) (keeps : Bool) → InRow bounds → n ≡ length bounds → x ≡ get_or bounds (n - 1) x → (x ≡ Default → ⊥) → AreBits (length bounds) old (λ k. bit old k || (is_default (get_or bounds k Default) && keeps))
not_added bounds old n x keeps h long at other k lt = rw (none_is bounds k n x h lt long at other) (by (bit old k))
  where
    by : (s : Bool) → s ≡ s || false
    by true = refl
    by false = refl

-- the run and the default together
pub all_kept : (bounds : List Bound) (short : Bool) (c : Chain) (a b : ℕ) (keeps : Bool) (old new : List ℕ) → InRow bounds → Ends bounds c a b → length bounds ≤ 1024 → keeps ≡ chain_keeps bounds short c Default
    → AreBits 1024 old (in_run (a / 2) ((b + 1) / 2)) → AreBits (length bounds) new (λ k. bit old k || (is_default (get_or bounds k Default) && keeps)) → AreBits (length bounds) new (λ k. chain_keeps bounds short c (get_or bounds k Default))
all_kept bounds short c a b keeps old new h e small is run added k lt =
    added k lt ∙ ap (λ t. t || (is_default (get_or bounds k Default) && keeps)) (run k (omega (arith, lt, small))) ∙ child_kept bounds short c a b k keeps h e lt is

pub twice_at_most : (start middle now m d : ℕ) → start ≤ middle → middle ≤ now → 2 ^ (middle - start) ≤ 2 * m + 2 → 2 ^ (now - middle) ≤ 2 * m + 2 → 2 * m + 2 < 2 ^ (d + 1) → now ≤ start + 2 * d
twice_at_most start middle now m d h k p q most = let a = at_most start middle m d h p most in let b = at_most middle now m d k q most in omega (arith, a, b)

pub twice_at_least : (start middle now m d : ℕ) → start ≤ middle → middle ≤ now → m + 2 ≤ 2 * 2 ^ (middle - start) → m + 2 ≤ 2 * 2 ^ (now - middle) → 2 ^ d ≤ m + 1 → start + 2 * d ≤ now
twice_at_least start middle now m d h k p q few = let a = at_least start middle m d h p few in let b = at_least middle now m d k q few in omega (arith, a, b)

-- where there is no stored point, points of any length split them
pub ends_width : (e : Bool) (points : List (List Edge)) (wide w n : ℕ) (fill : Fill) (values : List Value) (m : ℕ) → (0 < length points → wide ≡ w) → Splits (passes e (end_of wide n fill values)) points m → Splits (passes e (end_of w n fill values)) points m
ends_width e points wide w n fill values m is s = elim (cases_lt 0 (length points)) [
  | inl some ↦ subst (λ v. Splits (passes e (end_of v n fill values)) points m) (is some) s
  | inr none ↦ let inside = s.within in record {
    within = inside;
    before = λ k d lt. absurd (omega (arith, inside, lt, none));
    behind = λ k d from lt. absurd (omega (arith, lt, none));
  }
]
