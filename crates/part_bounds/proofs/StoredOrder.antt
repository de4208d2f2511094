-- The stored points are those of the bounds, ascending, and those of lists are apart.
use Rattle.std.proofs.Common.{◌≡◌, ℕ, suc, Bool, true, false, not, List, [], ◌∷◌, ◌++◌, map, filter, refl, sym, ap, ◌∙◌, if◌then◌else◌}
use Rattle.std.specs.List.{All, AllPairs}
use Rattle.std.specs.List.Sorted.{IsPermutation}
use Rattle.std.specs.Ordering.{is_eq, is_gt, is_lt}
use Rattle.std.specs.declared.cmp.Ordering.{Ordering}
use Rattle.std.specs.declared.cmp.Ordering.TheVariants.{Less, Equal, Greater}
use Rattle.std.proofs.lemmas.List.Elements.{All-nil, All-cons}
use Rattle.std.proofs.lemmas.List.Kept.{AllPairs-cons}
use Rattle.std.proofs.lemmas.List.Sorted.{IsPermutation-refl, IsPermutation-trans, IsPermutation-middle, IsPermutation-append_right}
use Rattle.pg_values.specs.declared.value.Value.{Value}
use Rattle.bound_forms.specs.declared.level.KeyColumn.{KeyColumn}
use Rattle.pg_values.specs.declared.strategy.Strategy.TheVariants.{List as ByList}
use Rattle.bound_forms.specs.declared.partition_bound.Bound.{Bound}
use Rattle.bound_forms.specs.declared.partition_bound.Bound.TheVariants.{Range, List as Listed, Hash, Default}
use Rattle.bound_forms.specs.declared.point.Edge.{Edge}
use Rattle.bound_forms.specs.Points.{is_null, point_of, point_order}
use Rattle.bound_forms.specs.Listed.{is_same, lists, share_value}
use Rattle.bound_forms.specs.Bounds.{is_below, overlaps}
use Rattle.bound_forms.specs.Levels.{IsBoundAt}
use Rattle.bound_forms.proofs.KindLaws.{or_left, or_right}
use Rattle.bound_forms.proofs.ListedLaws.{same_turned}
use Rattle.bound_forms.proofs.PlainOrder.{pairs-nil, pairs-head, pairs-tail}
use Rattle.bound_forms.proofs.PointOrder.{point_total}
use Rattle.bound_forms.proofs.TotalOrder.{lt-gt, turn}
use Rattle.part_bounds.specs.Sorted.{insert, sorted}
use Rattle.part_bounds.specs.Stored.{Mark, lies_below, marks, marks_from, Each}
use Rattle.part_bounds.specs.Laws.{ListedPointsAreApart, StoredPointsAreAll, StoredPointsAscend}
use Rattle.part_bounds.proofs.ListingLaws.{one_value}
use Rattle.part_bounds.proofs.LevelStored.{at_strategy}
use Rattle.part_bounds.proofs.Stable.{NoneLess, Rising, each_insert, each_sorted, sorted_rising}
use Rattle.part_bounds.proofs.StoredLaws.{each_append, each_of, marks_weak}

-- ---- all of them

insert_keeps : {X : Type 0} (lt : X → X → Bool) (x : X) (ys : List X) → IsPermutation (x ∷ ys) (insert lt x ys)
insert_keeps lt x [] = IsPermutation-refl (x ∷ [])
insert_keeps lt x (y ∷ ys) = by (lt y x) (insert_keeps lt x ys)
  where
    by : (t : Bool) → IsPermutation (x ∷ ys) (insert lt x ys) → IsPermutation (x ∷ (y ∷ ys)) (if t then y ∷ insert lt x ys else x ∷ (y ∷ ys))
    by true go = IsPermutation-trans _ _ _ (IsPermutation-middle (x ∷ []) y ys) (IsPermutation-append_right (y ∷ []) (x ∷ ys) (insert lt x ys) go)
    by false go = IsPermutation-refl (x ∷ (y ∷ ys))

sorted_keeps : {X : Type 0} (lt : X → X → Bool) (xs : List X) → IsPermutation xs (sorted lt xs)
sorted_keeps lt [] = IsPermutation-refl []
sorted_keeps lt (x ∷ xs) = IsPermutation-trans _ _ _ (IsPermutation-append_right (x ∷ []) xs (sorted lt xs) (sorted_keeps lt xs)) (insert_keeps lt x (sorted lt xs))

pub points_are_all : StoredPointsAreAll
points_are_all bounds = sorted_keeps lies_below (marks_from 0 bounds)

-- ---- ascending

none_below : (m : Mark) (ms : List Mark) → NoneLess lies_below marks_weak m ms → All (λ q. is_below q m.point ≡ false) (map (λ x. x.point) ms)
none_below m [] h = All-nil (λ q. is_below q m.point ≡ false)
none_below m (x ∷ ms) h = All-cons (λ q. is_below q m.point ≡ false) x.point (map (λ x. x.point) ms) h.0 (none_below m ms h.1)

rising_pairs : (ms : List Mark) → Rising lies_below marks_weak ms → AllPairs (λ p q. is_below q p ≡ false) (map (λ x. x.point) ms)
rising_pairs [] r = pairs-nil (λ p q. is_below q p ≡ false)
rising_pairs (m ∷ ms) r = AllPairs-cons (λ p q. is_below q p ≡ false) m.point (map (λ x. x.point) ms) (none_below m ms r.0) (rising_pairs ms r.1)

pub points_ascend : StoredPointsAscend
points_ascend bounds = rising_pairs (marks bounds) (sorted_rising lies_below marks_weak (marks_from 0 bounds))

-- ---- apart

abbrev Differs : List Edge → Mark → Type 0
Differs p m = is_eq (point_order p m.point) ≡ false

abbrev AllDiffer : List Mark → Type 0
AllDiffer [] = Unit {0}
AllDiffer (m ∷ ms) = Each (Differs m.point) ms × AllDiffer ms

differ_turned : (p q : List Edge) → is_eq (point_order p q) ≡ false → is_eq (point_order q p) ≡ false
differ_turned p q h = by (point_order p q) refl h
  where
    by : (r : Ordering) → point_order p q ≡ r → is_eq r ≡ false → is_eq (point_order q p) ≡ false
    by Less e h = ap is_eq (turn point_total p q Less e)
    by Equal e h = cc
    by Greater e h = ap is_eq (turn point_total p q Greater e)

differ_insert : (x : Mark) (ys : List Mark) → Each (Differs x.point) ys → AllDiffer ys → AllDiffer (insert lies_below x ys)
differ_insert x [] e d = (tt, tt)
differ_insert x (y ∷ ys) e d = by (lies_below y x) (differ_insert x ys e.1 d.1)
  where
    by : (t : Bool) → AllDiffer (insert lies_below x ys) → AllDiffer (if t then y ∷ insert lies_below x ys else x ∷ (y ∷ ys))
    by true go = (each_insert lies_below marks_weak (Differs y.point) x ys (differ_turned x.point y.point e.0) d.0, go)
    by false go = (e, d)

differ_sorted : (xs : List Mark) → AllDiffer xs → AllDiffer (sorted lies_below xs)
differ_sorted [] d = tt
differ_sorted (x ∷ xs) d = differ_insert x (sorted lies_below xs) (each_sorted lies_below marks_weak (Differs x.point) xs d.0) (differ_sorted xs d.1)

differ_append : (xs ys : List Mark) → AllDiffer xs → AllDiffer ys → Each (λ m. Each (Differs m.point) ys) xs → AllDiffer (xs ++ ys)
differ_append [] ys d k e = k
differ_append (x ∷ xs) ys d k e = (each_append (Differs x.point) xs ys d.0 e.0, differ_append xs ys d.1 k e.1)

-- the points of listed values
abbrev value_marks : ℕ → List Value → List Mark
value_marks n values = map (λ p. record { point = p; child = n }) (map (λ v. point_of (v ∷ [])) (filter (λ v. not (is_null v)) values))

value_differs : (v : Value) (n : ℕ) (values : List Value) → Each (λ w. is_same v w ≡ false) values → Each (Differs (point_of (v ∷ []))) (value_marks n values)
value_differs v n [] h = tt
value_differs v n (w ∷ values) h = by (is_null w) (value_differs v n values h.1)
  where
    by : (t : Bool) → Each (Differs (point_of (v ∷ []))) (value_marks n values)
        → Each (Differs (point_of (v ∷ []))) (map (λ p. record { point = p; child = n }) (map (λ v. point_of (v ∷ [])) (if not t then w ∷ filter (λ v. not (is_null v)) values else filter (λ v. not (is_null v)) values)))
    by true go = go
    by false go = (ap is_eq (one_value v w) ∙ h.0, go)

once_differ : (n : ℕ) (values : List Value) → AllPairs (λ v w. is_same v w ≡ false) values → AllDiffer (value_marks n values)
once_differ n [] h = tt
once_differ n (v ∷ values) h = by (is_null v) (once_differ n values (pairs-tail (λ v w. is_same v w ≡ false) v values h))
  where
    by : (t : Bool) → AllDiffer (value_marks n values)
        → AllDiffer (map (λ p. record { point = p; child = n }) (map (λ v. point_of (v ∷ [])) (if not t then v ∷ filter (λ v. not (is_null v)) values else filter (λ v. not (is_null v)) values)))
    by true go = go
    by false go = (value_differs v n values (each_of (λ w. is_same v w ≡ false) values (pairs-head (λ v w. is_same v w ≡ false) v values h)), go)

none_same : (v : Value) (others : List Value) → lists others v ≡ false → Each (λ w. is_same v w ≡ false) others
none_same v [] h = tt
none_same v (w ∷ others) h = (same_turned v w ∙ or_left (is_same w v) (lists others v) h, none_same v others (or_right (is_same w v) (lists others v) h))

-- a value of a list is in none of the later lists
value_apart : (columns : List KeyColumn) (v : Value) (values : List Value) (n : ℕ) (bounds : List Bound) → Each (IsBoundAt ByList columns) bounds → Each (λ b. overlaps (Listed (v ∷ values)) b ≡ false) bounds → Each (Differs (point_of (v ∷ []))) (marks_from n bounds)
value_apart columns v values n [] l h = tt
value_apart columns v values n (Listed others ∷ bounds) l h =
    each_append (Differs (point_of (v ∷ []))) (value_marks n others) (marks_from (suc n) bounds) (value_differs v n others (none_same v others (or_left (lists others v) (share_value values others) h.0)))
    (value_apart columns v values (suc n) bounds l.1 h.1)
value_apart columns v values n (Default ∷ bounds) l h = value_apart columns v values (suc n) bounds l.1 h.1
value_apart columns v values n (Range l' u ∷ bounds) l h = absurd l.0
value_apart columns v values n (Hash m r ∷ bounds) l h = absurd l.0

-- and so are the further values of the list
rest_apart : (columns : List KeyColumn) (v : Value) (values : List Value) (bounds : List Bound) → Each (IsBoundAt ByList columns) bounds → Each (λ b. overlaps (Listed (v ∷ values)) b ≡ false) bounds → Each (λ b. overlaps (Listed values) b ≡ false) bounds
rest_apart columns v values [] l h = tt
rest_apart columns v values (Listed others ∷ bounds) l h = (or_right (lists others v) (share_value values others) h.0, rest_apart columns v values bounds l.1 h.1)
rest_apart columns v values (Default ∷ bounds) l h = (refl, rest_apart columns v values bounds l.1 h.1)
rest_apart columns v values (Range l' u ∷ bounds) l h = absurd l.0
rest_apart columns v values (Hash m r ∷ bounds) l h = absurd l.0

list_apart : (columns : List KeyColumn) (n k : ℕ) (values : List Value) (bounds : List Bound) → Each (IsBoundAt ByList columns) bounds → Each (λ b. overlaps (Listed values) b ≡ false) bounds → Each (λ m. Each (Differs m.point) (marks_from k bounds)) (value_marks n values)
list_apart columns n k [] bounds l h = tt
list_apart columns n k (v ∷ values) bounds l h = by (is_null v) (list_apart columns n k values bounds l (rest_apart columns v values bounds l h))
  where
    by : (t : Bool) → Each (λ m. Each (Differs m.point) (marks_from k bounds)) (value_marks n values)
        → Each {X = Mark} (λ m. Each (Differs m.point) (marks_from k bounds)) (map (λ p. record { point = p; child = n }) (map (λ v. point_of (v ∷ [])) (if not t then v ∷ filter (λ v. not (is_null v)) values else filter (λ v. not (is_null v)) values)))
    by true go = go
    by false go = (value_apart columns v values k bounds l h, go)

lists_differ : (columns : List KeyColumn) (n : ℕ) (bounds : List Bound) → Each (IsBoundAt ByList columns) bounds → AllPairs (λ a b. overlaps a b ≡ false) bounds → AllDiffer (marks_from n bounds)
lists_differ columns n [] l apart = tt
lists_differ columns n (Listed values ∷ bounds) l apart =
    let rest = pairs-tail (λ a b. overlaps a b ≡ false) (Listed values) bounds apart in
    let first = each_of (λ b. overlaps (Listed values) b ≡ false) bounds (pairs-head (λ a b. overlaps a b ≡ false) (Listed values) bounds apart) in
    differ_append (value_marks n values) (marks_from (suc n) bounds) (once_differ n values l.0.0.once) (lists_differ columns (suc n) bounds l.1 rest) (list_apart columns n (suc n) values bounds l.1 first)
lists_differ columns n (Default ∷ bounds) l apart = lists_differ columns (suc n) bounds l.1 (pairs-tail (λ a b. overlaps a b ≡ false) Default bounds apart)
lists_differ columns n (Range l' u ∷ bounds) l apart = absurd l.0
lists_differ columns n (Hash m r ∷ bounds) l apart = absurd l.0

below : (p q : List Edge) → is_below q p ≡ false → is_eq (point_order p q) ≡ false → is_below p q ≡ true
below p q h e = by (point_order p q) (sym (lt-gt point_total q p) ∙ h) e
  where
    by : (r : Ordering) → is_gt r ≡ false → is_eq r ≡ false → is_lt r ≡ true
    by Less g e = refl
    by Equal g e = cc
    by Greater g e = cc

all_above : (m : Mark) (ms : List Mark) → NoneLess lies_below marks_weak m ms → Each (Differs m.point) ms → All (λ q. is_below m.point q ≡ true) (map (λ x. x.point) ms)
all_above m [] h e = All-nil (λ q. is_below m.point q ≡ true)
all_above m (x ∷ ms) h e = All-cons (λ q. is_below m.point q ≡ true) x.point (map (λ x. x.point) ms) (below m.point x.point h.0 e.0) (all_above m ms h.1 e.1)

apart_pairs : (ms : List Mark) → Rising lies_below marks_weak ms → AllDiffer ms → AllPairs (λ p q. is_below p q ≡ true) (map (λ x. x.point) ms)
apart_pairs [] r d = pairs-nil (λ p q. is_below p q ≡ true)
apart_pairs (m ∷ ms) r d = AllPairs-cons (λ p q. is_below p q ≡ true) m.point (map (λ x. x.point) ms) (all_above m ms r.0 d.0) (apart_pairs ms r.1 d.1)

pub listed_apart : ListedPointsAreApart
listed_apart level bounds is all order =
    let listed = each_of (IsBoundAt ByList level.columns) bounds (at_strategy level ByList bounds is all) in
    apart_pairs (marks bounds) (sorted_rising lies_below marks_weak (marks_from 0 bounds)) (differ_sorted (marks_from 0 bounds) (lists_differ level.columns 0 bounds listed order.apart))
