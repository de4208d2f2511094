-- The stored points of a range level, by their numbers, and their order.
use Rattle.std.proofs.Math.Nat.{eq-or-lt_of_le}
use Rattle.std.proofs.lemmas.List.{get_or_default}
use Rattle.std.specs.Prelude.{◌==◌, if◌then◌else◌}
use Rattle.std.proofs.Common.{◌≡◌, inl, inr, ℕ, zero, suc, ◌+◌, ◌-◌, ◌*◌, ◌/◌, ◌%◌, ◌<◌, ◌≤◌, Bool, true, false, true≢false, not, ◌&&◌, ◌||◌, List, [], ◌∷◌, ◌++◌, length, map, get_or, refl, sym, ap, subst, ◌∙◌, arith}
use Rattle.std.specs.List.{All, AllPairs}
use Rattle.std.specs.Ordering.{is_gt, is_lt, is_le}
use Rattle.std.specs.Cmp.{IsStrictWeakOrder}
use Rattle.std.proofs.lemmas.List.Sorted.{ranks_by}
use Rattle.std.proofs.lemmas.List.Elements.{All-cons, All-head, All-tail, All-nil}
use Rattle.pg_values.specs.declared.value.Value.{Value}
use Rattle.bound_forms.specs.declared.partition_bound.Bound.{Bound}
use Rattle.bound_forms.specs.declared.partition_bound.Bound.TheVariants.{Range, List as Listed, Hash, Default}
use Rattle.bound_forms.specs.declared.point.Edge.{Edge}
use Rattle.bound_forms.specs.Points.{point_order, EdgeOfKind}
use Rattle.bound_forms.specs.Bounds.{is_below, comes_after, overlaps, BoundOfKind, CanCompare, IsInPlainOrder}
use Rattle.bound_forms.specs.Accepts.{is_default}
use Rattle.part_bounds.specs.Stored.{Each, InRow, range_points, stored, owners, of_ranges, IsRangeLevel, passes, upper_of, Mark, points_in, marks_from, marks, lies_below, in_sibling, begins_up_to, CanBegin, RangesFit, Splits}
use Rattle.std.specs.declared.cmp.Ordering.{Ordering}
use Rattle.std.specs.declared.cmp.Ordering.TheVariants.{Less, Equal, Greater}
use Rattle.bound_forms.proofs.PointOrder.{point_total}
use Rattle.bound_forms.proofs.OverlapLaws.{overlap_of_filled}
use Rattle.bound_forms.proofs.TotalOrder.{turn, le_trans, le_lt, lt-le, lt-gt, le-not_gt, not_gt-le}
use Rattle.part_bounds.proofs.Halves.{Falls}
use Rattle.part_bounds.proofs.Stable.{NoneLess, Rising, sorted_itself, each_sorted}

-- the order of marks by their points
pub marks_weak : IsStrictWeakOrder lies_below
marks_weak = ranks_by point_total (λ m. m.point)

pub each_of : {X : Type 0} (P : X → Type 0) (xs : List X) → All P xs → Each P xs
each_of P [] h = tt
each_of P (x ∷ xs) h = (All-head P x xs h, each_of P xs (All-tail P x xs h))

pub all_of : {X : Type 0} (P : X → Type 0) (xs : List X) → Each P xs → All P xs
all_of P [] h = All-nil P
all_of P (x ∷ xs) h = All-cons P x xs h.0 (all_of P xs h.1)

-- what is known of a bound by itself, and of a later one
abbrev Alone : (Value → Type 0) → Bound → Type 0
Alone P b = (of_ranges b ≡ true) × BoundOfKind P b

abbrev Ahead : Bound → Bound → Type 0
Ahead a b = (comes_after a b ≡ false) × (overlaps a b ≡ false)

abbrev Known : (Value → Type 0) → List Bound → Type 0
Known P [] = Unit {0}
Known P (b ∷ bounds) = Alone P b × Each (Ahead b) bounds × Known P bounds

known : (P : Value → Type 0) (bounds : List Bound) → IsRangeLevel bounds → All (BoundOfKind P) bounds
    → AllPairs (λ a b. comes_after a b ≡ false) bounds → AllPairs (λ a b. overlaps a b ≡ false) bounds → Known P bounds
known P [] r k s a = tt
known P (b ∷ bounds) r k s a = (
  (r 0 b (omega arith), k 0 b (omega arith)),
  each_of (Ahead b) bounds (λ i d lt. (s 0 (suc i) d (omega arith) (omega arith), a 0 (suc i) d (omega arith) (omega arith))),
  known P bounds (All-tail (λ b. of_ranges b ≡ true) b bounds r) (All-tail (BoundOfKind P) b bounds k) (λ i j d lt le. s (suc i) (suc j) d (omega arith) (omega arith)) (λ i j d lt le. a (suc i) (suc j) d (omega arith) (omega arith)),
)

-- ---- ranges first

-- of two ranges, one behind the other, that do not overlap, the first ends before the second begins
apart_row : (l u m v : List Edge) → is_below l u ≡ true → is_below m v ≡ true → comes_after (Range l u) (Range m v) ≡ false → overlaps (Range l u) (Range m v) ≡ false → is_gt (point_order u m) ≡ false
apart_row l u m v f g h k =
    let above : is_gt (point_order v l) ≡ true = sym (lt-gt point_total l v) ∙ le_lt point_total l m v h g in
    let e : is_lt (point_order m u) && is_gt (point_order v l) ≡ false = sym (overlap_of_filled m v l u g f) ∙ k in
    sym (lt-gt point_total m u) ∙ by (is_lt (point_order m u)) (is_gt (point_order v l)) above e
  where
    by : (s t : Bool) → t ≡ true → s && t ≡ false → s ≡ false
    by false t a e = refl
    by true t a e = absurd (true≢false (sym a ∙ e))

-- what the first range ends before, each stored point lies at or above
ends_first : (P : Value → Type 0) (l u : List Edge) (bounds : List Bound) → is_below l u ≡ true → Each (Ahead (Range l u)) bounds → Known P bounds → Each (λ p. is_gt (point_order u p) ≡ false) (range_points bounds)
ends_first P l u [] f a k = tt
ends_first P l u (Range m v ∷ bounds) f a k =
    let g = k.0.1.2 in
    let le = apart_row l u m v f g a.0.0 a.0.1 in
    (le, (le_trans point_total u m v le (lt-le point_total m v g), ends_first P l u bounds f a.1 k.2))
ends_first P l u (Default ∷ bounds) f a k = ends_first P l u bounds f a.1 k.2
ends_first P l u (Listed values ∷ bounds) f a k = absurd (true≢false (sym k.0.0))
ends_first P l u (Hash m n ∷ bounds) f a k = absurd (true≢false (sym k.0.0))

-- nothing stands behind the default
behind_default : (P : Value → Type 0) (bounds : List Bound) → Each (Ahead Default) bounds → Known P bounds → bounds ≡ []
behind_default P [] a k = refl
behind_default P (Range m v ∷ bounds) a k = absurd (true≢false a.0.0)
behind_default P (Default ∷ bounds) a k = absurd (true≢false a.0.1)
behind_default P (Listed values ∷ bounds) a k = absurd (true≢false (sym k.0.0))
behind_default P (Hash m n ∷ bounds) a k = absurd (true≢false (sym k.0.0))

row_of : (P : Value → Type 0) (bounds : List Bound) → Known P bounds → InRow bounds
row_of P [] k = tt
row_of P (Range l u ∷ bounds) k = (k.0.1.2, ends_first P l u bounds k.0.1.2 k.1 k.2, row_of P bounds k.2)
row_of P (Default ∷ bounds) k = behind_default P bounds k.1 k.2
row_of P (Listed values ∷ bounds) k = absurd (true≢false (sym k.0.0))
row_of P (Hash m n ∷ bounds) k = absurd (true≢false (sym k.0.0))

pub in_row : (P : Value → Type 0) (bounds : List Bound) → IsRangeLevel bounds → All (BoundOfKind P) bounds → IsInPlainOrder bounds → InRow bounds
in_row P bounds r kinds order = row_of P bounds (known P bounds r kinds order.sorted order.apart)

-- ---- the points in order

no_points : (bounds : List Bound) (j : ℕ) → bounds ≡ [] → j < length (range_points bounds) → ⊥
no_points [] j e lt = omega arith
no_points (b ∷ bounds) j e lt = cc

-- from below, a point that is not above the next passes where that one does
pub passes_down : (e : Bool) (q p r : List Edge) → is_gt (point_order p r) ≡ false → passes e q r ≡ true → passes e q p ≡ true
passes_down true q p r h k = not_gt-le (point_order p q) (le_trans point_total p r q h (le-not_gt (point_order r q) k))
passes_down false q p r h k = le_lt point_total p r q h k

rising : (bounds : List Bound) → InRow bounds → (i j : ℕ) (d : List Edge) → i < j → j < length (range_points bounds) → is_gt (point_order (get_or (range_points bounds) i d) (get_or (range_points bounds) j d)) ≡ false
rising [] h i j d lt le = absurd (omega arith)
rising (Range l u ∷ bounds) h zero zero d lt le = absurd (omega arith)
rising (Range l u ∷ bounds) h zero (suc zero) d lt le = lt-le point_total l u h.0
rising (Range l u ∷ bounds) h zero (suc (suc j)) d lt le =
    le_trans point_total l u (get_or (range_points bounds) j d) (lt-le point_total l u h.0) (all_of (λ p. is_gt (point_order u p) ≡ false) (range_points bounds) h.1 j d (omega arith))
rising (Range l u ∷ bounds) h (suc i) zero d lt le = absurd (omega arith)
rising (Range l u ∷ bounds) h (suc zero) (suc zero) d lt le = absurd (omega arith)
rising (Range l u ∷ bounds) h (suc zero) (suc (suc j)) d lt le = all_of (λ p. is_gt (point_order u p) ≡ false) (range_points bounds) h.1 j d (omega arith)
rising (Range l u ∷ bounds) h (suc (suc i)) (suc zero) d lt le = absurd (omega arith)
rising (Range l u ∷ bounds) h (suc (suc i)) (suc (suc j)) d lt le = rising bounds h.2 i j d (omega arith) (omega arith)
rising (Default ∷ bounds) h i j d lt le = absurd (no_points bounds j h le)
rising (Listed values ∷ bounds) h i j d lt le = absurd h
rising (Hash m n ∷ bounds) h i j d lt le = absurd h

pub falls : (bounds : List Bound) → InRow bounds → (e : Bool) (q : List Edge) → Falls (passes e q) (range_points bounds)
falls bounds h e q = record {
  falls = λ i j d le w k. elim (eq-or-lt_of_le le) [
    | inl same ↦ rw same k
    | inr lt ↦ passes_down e q (get_or (range_points bounds) i d) (get_or (range_points bounds) j d) (rising bounds h i j d lt w) k
  ];
}

-- ---- points by their numbers

-- the range that a stored point is of
pub record IsOf (bounds : List Bound) (i : ℕ) : Type 0 where
  pub lower : List Edge
  pub upper : List Edge
  pub child : i / 2 < length bounds
  pub is : (d : Bound) → get_or bounds (i / 2) d ≡ Range lower upper
  pub at : (d : List Edge) → get_or (range_points bounds) i d ≡ (if i % 2 == 0 then lower else upper)

one_more : (bounds : List Bound) (l u : List Edge) (i : ℕ) → IsOf bounds i → IsOf (Range l u ∷ bounds) (suc (suc i))
one_more bounds l u i r =
    let half : suc (suc i) / 2 ≡ suc (i / 2) = omega arith in
    let odd : suc (suc i) % 2 ≡ i % 2 = omega arith in
    let within = r.child in
    record {
      lower = r.lower;
      upper = r.upper;
      child = omega (arith, within);
      is = λ d. rw half (r.is d);
      at = λ d. rw odd (r.at d);
    }

pub owner : (bounds : List Bound) → InRow bounds → (i : ℕ) → i < length (range_points bounds) → IsOf bounds i
owner [] h i lt = absurd (omega arith)
owner (Range l u ∷ bounds) h zero lt = record { lower = l; upper = u; child = omega arith; is = λ d. refl; at = λ d. refl }
owner (Range l u ∷ bounds) h (suc zero) lt = record { lower = l; upper = u; child = omega arith; is = λ d. refl; at = λ d. refl }
owner (Range l u ∷ bounds) h (suc (suc i)) lt = one_more bounds l u i (owner bounds h.2 i (omega arith))
owner (Default ∷ bounds) h i lt = absurd (no_points bounds i h lt)
owner (Listed values ∷ bounds) h i lt = absurd h
owner (Hash m n ∷ bounds) h i lt = absurd h

-- how many of the bounds are ranges
abbrev ranges_of : List Bound → Bound → ℕ
ranges_of bounds d = if is_default (get_or bounds (length bounds - 1) d) then length bounds - 1 else length bounds

pub ranges : (bounds : List Bound) → InRow bounds → (d : Bound) → 0 < length bounds → length (range_points bounds) ≡ 2 * ranges_of bounds d
ranges [] h d lt = absurd (omega arith)
ranges (Range l u ∷ []) h d lt = refl
ranges (Range l u ∷ (b ∷ bounds)) h d lt = by (ranges (b ∷ bounds) h.2 d (omega arith))
  where
    last : length (b ∷ (b ∷ bounds)) - 1 ≡ suc (length (b ∷ bounds) - 1)
    last = omega arith

    by : length (range_points (b ∷ bounds)) ≡ 2 * ranges_of (b ∷ bounds) d → length (range_points (Range l u ∷ (b ∷ bounds))) ≡ 2 * ranges_of (Range l u ∷ (b ∷ bounds)) d
    by e = rw last (cases (is_default (get_or (b ∷ bounds) (length (b ∷ bounds) - 1) d)) e)
      where
        cases : (t : Bool) → length (range_points (b ∷ bounds)) ≡ 2 * (if t then length (b ∷ bounds) - 1 else length (b ∷ bounds))
            → suc (suc (length (range_points (b ∷ bounds)))) ≡ 2 * (if t then suc (length (b ∷ bounds) - 1) else length (b ∷ (b ∷ bounds)))
        cases true e = omega (arith, e)
        cases false e = omega (arith, e)
ranges (Default ∷ bounds) h d lt = rw h refl
ranges (Listed values ∷ bounds) h d lt = absurd h
ranges (Hash m n ∷ bounds) h d lt = absurd h

pub ranges_if : (bounds : List Bound) (n : ℕ) (x : Bound) (t : Bool) → InRow bounds → n ≡ length bounds → (n ≡ 0 → ⊥) → x ≡ get_or bounds (n - 1) x → is_default x ≡ t → length (range_points bounds) ≡ 2 * (if t then n - 1 else n)
ranges_if bounds n x t h long some is e = ranges bounds h x (omega (arith, long)) ∙ rw (← long, ← is, e) refl

pub owner_low : (bounds : List Bound) → InRow bounds → (i : ℕ) (b : Bound) (l u : List Edge) → i < length (range_points bounds) → b ≡ get_or bounds (i / 2) b → b ≡ Range l u → i % 2 ≡ 0 → l ≡ get_or (range_points bounds) i []
owner_low bounds h i b l u lt at is even =
    let r = owner bounds h i lt in
    let same : Range r.lower r.upper ≡ Range l u = sym (r.is b) ∙ sym at ∙ is in
    let lower : r.lower ≡ l = ap lower_in same in
    sym (r.at [] ∙ rw even lower)
  where
    lower_in : Bound → List Edge
    lower_in (Range l u) = l
    lower_in _ = []

pub owner_high : (bounds : List Bound) → InRow bounds → (i : ℕ) (b : Bound) (l u : List Edge) → i < length (range_points bounds) → b ≡ get_or bounds (i / 2) b → b ≡ Range l u → (i % 2 ≡ 0 → ⊥) → u ≡ get_or (range_points bounds) i []
owner_high bounds h i b l u lt at is odd =
    let r = owner bounds h i lt in
    let same : Range r.lower r.upper ≡ Range l u = sym (r.is b) ∙ sym at ∙ is in
    let one : i % 2 ≡ 1 = omega (arith, odd) in
    sym (r.at [] ∙ rw one (ap upper_of same))

pub owner_is : (bounds : List Bound) → InRow bounds → (i : ℕ) (b : Bound) → i < length (range_points bounds) → b ≡ get_or bounds (i / 2) b → ((l u : List Edge) → b ≡ Range l u → ⊥) → ⊥
owner_is bounds h i b lt at none = let r = owner bounds h i lt in none r.lower r.upper (at ∙ r.is b)

owned : (n : ℕ) (bounds : List Bound) → InRow bounds → (i : ℕ) → i < length (range_points bounds) → get_or (map (λ m. m.child) (marks_from n bounds)) i 0 ≡ n + i / 2
owned n [] h i lt = absurd (omega arith)
owned n (Range l u ∷ bounds) h zero lt = omega arith
owned n (Range l u ∷ bounds) h (suc zero) lt = omega arith
owned n (Range l u ∷ bounds) h (suc (suc i)) lt = owned (suc n) bounds h.2 i (omega arith) ∙ omega arith
owned n (Default ∷ bounds) h i lt = absurd (no_points bounds i h lt)
owned n (Listed values ∷ bounds) h i lt = absurd h
owned n (Hash m r ∷ bounds) h i lt = absurd h

-- ---- children by their numbers

pub record RangeAt (bounds : List Bound) (k : ℕ) (l u : List Edge) : Type 0 where
  pub is : (d : Bound) → get_or bounds k d ≡ Range l u
  pub low : (d : List Edge) → get_or (range_points bounds) (2 * k) d ≡ l
  pub high : (d : List Edge) → get_or (range_points bounds) (2 * k + 1) d ≡ u
  pub within : 2 * k + 1 < length (range_points bounds)

pub record DefaultAt (bounds : List Bound) (k : ℕ) : Type 0 where
  pub is : (d : Bound) → get_or bounds k d ≡ Default
  pub end : 2 * k ≡ length (range_points bounds)

pub data ChildAt (bounds : List Bound) (k : ℕ) : Type 0 where
  ranged : (l u : List Edge) → RangeAt bounds k l u → ChildAt bounds k
  as_default : DefaultAt bounds k → ChildAt bounds k

next_child : (bounds : List Bound) (l u : List Edge) (k : ℕ) → ChildAt bounds k → ChildAt (Range l u ∷ bounds) (suc k)
next_child bounds l u k (ranged m v r) =
    let e : 2 * suc k ≡ suc (suc (2 * k)) = omega arith in
    let f : suc (suc (2 * k)) + 1 ≡ suc (suc (2 * k + 1)) = omega arith in
    let within = r.within in
    ranged m v (record { is = r.is; low = λ d. rw e (r.low d); high = λ d. rw (e, f) (r.high d); within = omega (arith, within) })
next_child bounds l u k (as_default r) =
    let end = r.end in
    as_default (record { is = r.is; end = omega (arith, end) })

pub child_at : (bounds : List Bound) → InRow bounds → (k : ℕ) → k < length bounds → ChildAt bounds k
child_at [] h k lt = absurd (omega arith)
child_at (Range l u ∷ bounds) h zero lt = ranged l u (record { is = λ d. refl; low = λ d. refl; high = λ d. refl; within = omega arith })
child_at (Range l u ∷ bounds) h (suc k) lt = next_child bounds l u k (child_at bounds h.2 k (omega arith))
child_at (Default ∷ bounds) h zero lt = rw h (as_default (record { is = λ d. refl; end = refl }))
child_at (Default ∷ bounds) h (suc k) lt = absurd (none bounds h (omega arith))
  where
    none : (bounds : List Bound) → bounds ≡ [] → k < length bounds → ⊥
    none [] e lt = omega arith
    none (b ∷ bounds) e lt = cc
child_at (Listed values ∷ bounds) h k lt = absurd h
child_at (Hash m n ∷ bounds) h k lt = absurd h

-- ---- which range a point lies in

abbrev pub is_odd : ℕ → Bool
is_odd n = n % 2 == 1

odd_two : (n : ℕ) → is_odd (suc (suc n)) ≡ is_odd n
odd_two n = let e : suc (suc n) % 2 ≡ n % 2 = omega arith in rw e refl

le_gt : (r : Ordering) → is_le r ≡ false → is_gt r ≡ true
le_gt Less h = cc
le_gt Equal h = cc
le_gt Greater h = refl

le_no : (r : Ordering) → is_le r ≡ true → is_gt r ≡ false
le_no = le-not_gt

rest_splits : (P : List Edge → Bool) (x y : List Edge) (xs : List (List Edge)) (n : ℕ) → Splits P (x ∷ (y ∷ xs)) (suc (suc n)) → Splits P xs n
rest_splits P x y xs n s = let w = s.within in record {
  within = omega (arith, w);
  before = λ k d lt. s.before (suc (suc k)) d (omega arith);
  behind = λ k d from lt. s.behind (suc (suc k)) d (omega arith) (omega arith);
}

none_splits : (P : List Edge → Bool) (x y : List Edge) (xs : List (List Edge)) (n : ℕ) → n ≤ 2 → Splits P (x ∷ (y ∷ xs)) n → Splits P xs 0
none_splits P x y xs n h s = record {
  within = omega arith;
  before = λ k d lt. absurd (omega arith);
  behind = λ k d from lt. s.behind (suc (suc k)) d (omega arith) (omega arith);
}

-- a point lies in a sibling where the number of stored points that are not above it is odd
pub in_odd : (bounds : List Bound) (p : List Edge) (n : ℕ) → Splits (passes true p) (range_points bounds) n → in_sibling bounds p ≡ is_odd n
in_odd [] p n s = let w = s.within in let e : n ≡ 0 = omega (arith, w) in rw e refl
in_odd (Range l u ∷ bounds) p zero s =
    let low : is_le (point_order l p) ≡ false = s.behind 0 l (omega arith) (omega arith) in
    rw low (in_odd bounds p 0 (none_splits (passes true p) l u (range_points bounds) 0 (omega arith) s))
in_odd (Range l u ∷ bounds) p (suc zero) s =
    let low : is_le (point_order l p) ≡ true = s.before 0 l (omega arith) in
    let high : is_gt (point_order u p) ≡ true = le_gt (point_order u p) (s.behind 1 u (omega arith) (omega arith)) in
    rw (low, high) refl
in_odd (Range l u ∷ bounds) p (suc (suc n)) s =
    let high : is_gt (point_order u p) ≡ false = le_no (point_order u p) (s.before 1 u (omega arith)) in
    out (is_le (point_order l p)) (is_gt (point_order u p)) high ∙ in_odd bounds p n (rest_splits (passes true p) l u (range_points bounds) n s) ∙ sym (odd_two n)
  where
    out : (a b : Bool) → b ≡ false → (a && b) || in_sibling bounds p ≡ in_sibling bounds p
    out true b e = rw e refl
    out false b e = refl
in_odd (Default ∷ bounds) p n s = in_odd bounds p n s
in_odd (Listed values ∷ bounds) p n s = in_odd bounds p n s
in_odd (Hash m r ∷ bounds) p n s = in_odd bounds p n s

-- ---- the kinds of the stored points

pub of_kinds : (P : Value → Type 0) (bounds : List Bound) → All (BoundOfKind P) bounds → Each (λ p. All (EdgeOfKind P) p) (range_points bounds)
of_kinds P bounds all = by bounds (each_of (BoundOfKind P) bounds all)
  where
    by : (bounds : List Bound) → Each (BoundOfKind P) bounds → Each (λ p. All (EdgeOfKind P) p) (range_points bounds)
    by [] h = tt
    by (Range l u ∷ bounds) h = (h.0.0, (h.0.1, by bounds h.1))
    by (Default ∷ bounds) h = by bounds h.1
    by (Listed values ∷ bounds) h = by bounds h.1
    by (Hash m n ∷ bounds) h = by bounds h.1

-- ---- whether an upper point lies in a sibling

splits_by : (P : List Edge → Bool) (xs : List (List Edge)) (n : ℕ) → Falls P xs → suc n ≤ length xs → ((d : List Edge) → P (get_or xs n d) ≡ true) → ((d : List Edge) → suc n < length xs → P (get_or xs (suc n) d) ≡ false) → Splits P xs (suc n)
splits_by P xs n o w at past = record {
  within = w;
  before = λ k d lt. o.falls k n d (omega arith) w (at d);
  behind = λ k d from lt. no (P (get_or xs k d)) refl (λ p. o.falls (suc n) k d from lt p) (past d (omega arith));
}
  where
    no : {y z : List Edge} (t : Bool) → P y ≡ t → (P y ≡ true → P z ≡ true) → P z ≡ false → t ≡ false
    no false e f g = refl
    no true e f g = absurd (true≢false (sym (f e) ∙ g))

same_le : (p : List Edge) → is_le (point_order p p) ≡ true
same_le p = by (point_order p p) refl
  where
    by : (r : Ordering) → point_order p p ≡ r → is_le r ≡ true
    by Less e = refl
    by Equal e = refl
    by Greater e = absurd (true≢false (ap is_gt (sym e ∙ turn point_total p p Greater e)))

pub range_at : (bounds : List Bound) → InRow bounds → (k : ℕ) (b : Bound) (l u : List Edge) → k < length bounds → b ≡ get_or bounds k b → b ≡ Range l u → RangeAt bounds k l u
range_at bounds h k b l u lt at is = by (child_at bounds h k lt)
  where
    lower_in : Bound → List Edge
    lower_in (Range m v) = m
    lower_in _ = []

    default_in : Bound → Bool
    default_in Default = true
    default_in _ = false

    by : ChildAt bounds k → RangeAt bounds k l u
    by (ranged m v r) =
        let same : Range m v ≡ Range l u = sym (r.is b) ∙ sym at ∙ is in
        let e : m ≡ l = ap lower_in same in
        let f : v ≡ u = ap upper_of same in
        subst (λ x. RangeAt bounds k x u) e (subst (λ x. RangeAt bounds k m x) f r)
    by (as_default r) = absurd (true≢false (ap default_in (sym (r.is b) ∙ sym at ∙ is)))

touches_not : (bounds : List Bound) → InRow bounds → (k : ℕ) (l u : List Edge) → RangeAt bounds k l u → ((d : List Edge) → 2 * k + 2 < length (range_points bounds) → is_le (point_order (get_or (range_points bounds) (2 * k + 2) d) u) ≡ false) → in_sibling bounds u ≡ false
touches_not bounds h k l u r past =
    let w = r.within in
    let e : suc (2 * k + 1) ≡ 2 * k + 2 = omega arith in
    let even : suc (2 * k + 1) % 2 ≡ 0 = omega arith in
    in_odd bounds u (suc (2 * k + 1)) (splits_by (passes true u) (range_points bounds) (2 * k + 1) (falls bounds h true u) (omega arith) (λ d. rw (r.high d) (same_le u)) (λ d lt. rw e (past d (omega arith)))) ∙ rw even refl

-- the last range, or one before the default
pub touches_none : (bounds : List Bound) → InRow bounds → (k : ℕ) (l u : List Edge) → RangeAt bounds k l u → length (range_points bounds) ≤ 2 * k + 2 → in_sibling bounds u ≡ false
touches_none bounds h k l u r past = touches_not bounds h k l u r (λ d lt. absurd (omega arith))

pub filled_at : (bounds : List Bound) → InRow bounds → (k : ℕ) (l u : List Edge) → RangeAt bounds k l u → is_below l u ≡ true
filled_at [] h k l u r = let w = r.within in absurd (omega (arith, w))
filled_at (Range m v ∷ bounds) h zero l u r = rw (← (r.low []), ← (r.high [])) h.0
filled_at (Range m v ∷ bounds) h (suc k) l u r = filled_at bounds h.2 k l u (record {
  is = r.is;
  low = λ d. let e : 2 * suc k ≡ suc (suc (2 * k)) = omega arith in rw e at (r.low d);
  high = λ d. let e : 2 * suc k + 1 ≡ suc (suc (2 * k + 1)) = omega arith in rw e at (r.high d);
  within = let w = r.within in omega (arith, w);
})
filled_at (Default ∷ bounds) h k l u r = let w = r.within in absurd (no_points bounds (2 * k + 1) h w)
filled_at (Listed values ∷ bounds) h k l u r = absurd h
filled_at (Hash m n ∷ bounds) h k l u r = absurd h

-- a range before another one
pub touches_next : (bounds : List Bound) → InRow bounds → (k : ℕ) (l u m v : List Edge) → RangeAt bounds k l u → RangeAt bounds (k + 1) m v → is_below m v ≡ true → not (is_lt (point_order u m)) ≡ in_sibling bounds u
touches_next bounds h k l u m v r s filled = by (is_lt (point_order u m)) refl
  where
    low : (d : List Edge) → get_or (range_points bounds) (2 * k + 2) d ≡ m
    low d = let e : 2 * (k + 1) ≡ 2 * k + 2 = omega arith in rw e at (s.low d)

    high : (d : List Edge) → get_or (range_points bounds) (2 * k + 3) d ≡ v
    high d = let e : 2 * (k + 1) + 1 ≡ 2 * k + 3 = omega arith in rw e at (s.high d)

    gt_not_le : (r : Ordering) → is_gt r ≡ true → is_le r ≡ false
    gt_not_le Less e = cc
    gt_not_le Equal e = cc
    gt_not_le Greater e = refl

    by : (t : Bool) → is_lt (point_order u m) ≡ t → not t ≡ in_sibling bounds u
    by true e = sym (touches_not bounds h k l u r (λ d lt. rw (low d) (gt_not_le (point_order m u) (sym (lt-gt point_total u m) ∙ e))))
    by false e =
        let w = s.within in
        let a : 2 * k + 2 + 1 ≡ 2 * k + 3 = omega arith in
        let f : suc (2 * k + 2) ≡ 2 * k + 3 = omega arith in
        let odd : suc (2 * k + 2) % 2 ≡ 1 = omega arith in
        let le : is_gt (point_order m u) ≡ false = sym (lt-gt point_total u m) ∙ e in
        let over : is_gt (point_order v u) ≡ true = sym (lt-gt point_total u v) ∙ le_lt point_total u m v (rising_between bounds h k l u m v r s) filled in
        sym (in_odd bounds u (suc (2 * k + 2)) (splits_by (passes true u) (range_points bounds) (2 * k + 2) (falls bounds h true u) (omega (arith, w)) (λ d. rw (low d) (not_gt-le (point_order m u) le))
        (λ d lt. rw (f, high d) (gt_not_le (point_order v u) over))) ∙ rw odd refl)
      where
        rising_between : (bounds : List Bound) → InRow bounds → (k : ℕ) (l u m v : List Edge) → RangeAt bounds k l u → RangeAt bounds (k + 1) m v → is_gt (point_order u m) ≡ false
        rising_between bounds h k l u m v r s =
            let w = s.within in
            let e : 2 * k + 1 < 2 * (k + 1) = omega arith in
            rw (r.high [], s.low []) at (rising bounds h (2 * k + 1) (2 * (k + 1)) [] e (omega (arith, w)))

pub fit_next : (bounds : List Bound) → RangesFit bounds → (k : ℕ) (a b : Bound) (l u : List Edge) → k + 1 < length bounds → a ≡ get_or bounds k a → a ≡ Range l u → b ≡ get_or bounds (k + 1) b → CanBegin u b
fit_next bounds fit k a b l u lt at is at_b =
    let h : CanCompare (get_or bounds k a) (get_or bounds (k + 1) a) = fit k (k + 1) a (omega arith) lt in
    let e : get_or bounds k a ≡ Range l u = sym at ∙ is in
    let f : get_or bounds (k + 1) a ≡ b = get_or_default bounds (k + 1) a b lt ∙ sym at_b in
    let g : CanCompare (Range l u) b = rw (e, f) at h in
    by b g
  where
    by : (b : Bound) → CanCompare (Range l u) b → CanBegin u b
    by (Range m v) g = g.2
    by Default g = tt
    by (Listed values) g = tt
    by (Hash m n) g = tt

pub upper_is : (bounds : List Bound) (k : ℕ) (l u : List Edge) (d : Bound) → RangeAt bounds k l u → upper_of (get_or bounds k d) ≡ u
upper_is bounds k l u d r = ap upper_of (r.is d)

pub short : (bounds : List Bound) → length (range_points bounds) ≤ 2 * length bounds
short [] = omega arith
short (Range l u ∷ bounds) = let h = short bounds in omega (arith, h)
short (Default ∷ bounds) = let h = short bounds in omega (arith, h)
short (Listed values ∷ bounds) = let h = short bounds in omega (arith, h)
short (Hash m n ∷ bounds) = let h = short bounds in omega (arith, h)

-- a child that is not the default is a range
pub ranged_at : (bounds : List Bound) → InRow bounds → (k : ℕ) → k < length bounds → is_default (get_or bounds k Default) ≡ false → (l : List Edge) × (u : List Edge) × RangeAt bounds k l u
ranged_at bounds h k lt e = by (child_at bounds h k lt)
  where
    by : ChildAt bounds k → (l : List Edge) × (u : List Edge) × RangeAt bounds k l u
    by (ranged l u r) = (l, u, r)
    by (as_default r) = absurd (true≢false (ap is_default (sym (r.is Default)) ∙ e))

pub touches_last : (bounds : List Bound) → InRow bounds → (k : ℕ) → k < length bounds → length bounds - 1 ≤ k → is_default (get_or bounds k Default) ≡ false → false ≡ in_sibling bounds (upper_of (get_or bounds k Default))
touches_last bounds h k lt last e =
    let r = ranged_at bounds h k lt e in
    let s = short bounds in
    rw (upper_is bounds k r.0 r.1 Default r.2) (sym (touches_none bounds h k r.0 r.1 r.2 (omega (arith, s))))

pub touches_is : (bounds : List Bound) → InRow bounds → (k : ℕ) (a b : Bound) (l u : List Edge) → k + 1 < length bounds → a ≡ get_or bounds k a → a ≡ Range l u → b ≡ get_or bounds (k + 1) b
    → begins_up_to u b ≡ in_sibling bounds (upper_of (get_or bounds k Default))
touches_is bounds h k a b l u lt at is at_b = rw (upper_is bounds k l u Default r) (by (child_at bounds h (k + 1) lt))
  where
    r : RangeAt bounds k l u
    r = range_at bounds h k a l u (omega arith) at is

    by : ChildAt bounds (k + 1) → begins_up_to u b ≡ in_sibling bounds u
    by (ranged m v s) = rw (at_b ∙ s.is b) (touches_next bounds h k l u m v r s (filled_at bounds h (k + 1) m v s))
    by (as_default s) = let end = s.end in rw (at_b ∙ s.is b) (sym (touches_none bounds h k l u r (omega (arith, end))))

pub not_default : (bounds : List Bound) → InRow bounds → (k : ℕ) (b : Bound) → k < length bounds → is_default (get_or bounds k Default) ≡ false → b ≡ get_or bounds k b → ((l u : List Edge) → b ≡ Range l u → ⊥) → ⊥
not_default bounds h k b lt e at none = let r = ranged_at bounds h k lt e in none r.0 r.1 (at ∙ r.2.is b)

pub kind_upper : (P : Value → Type 0) (bounds : List Bound) (k : ℕ) (b : Bound) (l u : List Edge) → k < length bounds → b ≡ get_or bounds k b → b ≡ Range l u → All (BoundOfKind P) bounds → All (EdgeOfKind P) u
kind_upper P bounds k b l u lt at is all =
    let h : BoundOfKind P (Range l u) = rw (sym at ∙ is) at (all k b lt) in
    h.1

-- ---- the stored points of a range level are those of its ranges

points_row : (n : ℕ) (bounds : List Bound) → InRow bounds → map (λ m. m.point) (marks_from n bounds) ≡ range_points bounds
points_row n [] h = refl
points_row n (Range l u ∷ bounds) h = ap (λ ps. l ∷ (u ∷ ps)) (points_row (suc n) bounds h.2)
points_row n (Default ∷ bounds) h = rw h refl
points_row n (Listed values ∷ bounds) h = absurd h
points_row n (Hash m r ∷ bounds) h = absurd h

none_below : (m : Mark) (marks : List Mark) → Each (λ p. is_gt (point_order m.point p) ≡ false) (map (λ x. x.point) marks) → NoneLess lies_below marks_weak m marks
none_below m [] h = tt
none_below m (o ∷ marks) h = (lt-gt point_total o.point m.point ∙ h.0, none_below m marks h.1)

above_both : (l u : List Edge) (ps : List (List Edge)) → is_below l u ≡ true → Each (λ p. is_gt (point_order u p) ≡ false) ps → Each (λ p. is_gt (point_order l p) ≡ false) ps
above_both l u [] f h = tt
above_both l u (p ∷ ps) f h = (le_trans point_total l u p (lt-le point_total l u f) h.0, above_both l u ps f h.1)

rising_row : (n : ℕ) (bounds : List Bound) → InRow bounds → Rising lies_below marks_weak (marks_from n bounds)
rising_row n [] h = tt
rising_row n (Range l u ∷ bounds) h =
    let same = points_row (suc n) bounds h.2 in
    let upper : Each (λ p. is_gt (point_order u p) ≡ false) (map (λ m. m.point) (marks_from (suc n) bounds)) = rw same h.1 in (
      none_below (record { point = l; child = n }) (record { point = u; child = n } ∷ marks_from (suc n) bounds) (lt-le point_total l u h.0, above_both l u _ h.0 upper),
      (none_below (record { point = u; child = n }) (marks_from (suc n) bounds) upper, rising_row (suc n) bounds h.2),
    )
rising_row n (Default ∷ bounds) h = rw h tt
rising_row n (Listed values ∷ bounds) h = absurd h
rising_row n (Hash m r ∷ bounds) h = absurd h

-- the marks of ranges ascend as they stand
pub marks_row : (bounds : List Bound) → InRow bounds → marks bounds ≡ marks_from 0 bounds
marks_row bounds h = sorted_itself lies_below marks_weak (marks_from 0 bounds) (rising_row 0 bounds h)

pub stored_row : (bounds : List Bound) → InRow bounds → stored bounds ≡ range_points bounds
stored_row bounds h = ap (λ ms. map (λ m. m.point) ms) (marks_row bounds h) ∙ points_row 0 bounds h

pub owned_row : (bounds : List Bound) → InRow bounds → (i : ℕ) → i < length (stored bounds) → get_or (owners bounds) i 0 ≡ 0 + i / 2
owned_row bounds h i lt = ap (λ ms. get_or (map (λ m. m.child) ms) i 0) (marks_row bounds h) ∙ owned 0 bounds h i (omega (arith, lt, ap length (stored_row bounds h)))

pub row_at : (bounds : List Bound) → InRow bounds → (i : ℕ) → get_or (range_points bounds) i [] ≡ get_or (stored bounds) i []
row_at bounds h i = ap (λ ps. get_or ps i []) (sym (stored_row bounds h))

pub row_lt : (bounds : List Bound) → InRow bounds → (i : ℕ) → i < length (stored bounds) → i < length (range_points bounds)
row_lt bounds h i lt = omega (arith, lt, ap length (stored_row bounds h))

pub kinds_row : (P : Value → Type 0) (bounds : List Bound) → InRow bounds → All (BoundOfKind P) bounds → All (λ p. All (EdgeOfKind P) p) (stored bounds)
kinds_row P bounds h all = subst (λ ps. All (λ p. All (EdgeOfKind P) p) ps) (sym (stored_row bounds h)) (all_of (λ p. All (EdgeOfKind P) p) (range_points bounds) (of_kinds P bounds all))

-- ---- what holds of the points of each bound holds of the stored ones

pub each_append : {X : Type 0} (Q : X → Type 0) (xs ys : List X) → Each Q xs → Each Q ys → Each Q (xs ++ ys)
each_append Q [] ys h k = k
each_append Q (x ∷ xs) ys h k = (h.0, each_append Q xs ys h.1 k)

each_marked : (P : List Edge → Type 0) (n : ℕ) (ps : List (List Edge)) → Each P ps → Each {X = Mark} (λ m. P m.point) (map (λ p. record { point = p; child = n }) ps)
each_marked P n [] h = tt
each_marked P n (p ∷ ps) h = (h.0, each_marked P n ps h.1)

each_marks : (P : List Edge → Type 0) (n : ℕ) (bounds : List Bound) → Each (λ b. Each P (points_in b)) bounds → Each {X = Mark} (λ m. P m.point) (marks_from n bounds)
each_marks P n [] h = tt
each_marks P n (b ∷ bounds) h = each_append (λ (m : Mark). P m.point) _ (marks_from (suc n) bounds) (each_marked P n (points_in b) h.0) (each_marks P (suc n) bounds h.1)

each_point : (P : List Edge → Type 0) (ms : List Mark) → Each {X = Mark} (λ m. P m.point) ms → Each P (map (λ m. m.point) ms)
each_point P [] h = tt
each_point P (m ∷ ms) h = (h.0, each_point P ms h.1)

pub each_stored : (P : List Edge → Type 0) (bounds : List Bound) → Each (λ b. Each P (points_in b)) bounds → All P (stored bounds)
each_stored P bounds h = all_of P (stored bounds) (each_point P (marks bounds) (each_sorted lies_below marks_weak (λ (m : Mark). P m.point) (marks_from 0 bounds) (each_marks P 0 bounds h)))
