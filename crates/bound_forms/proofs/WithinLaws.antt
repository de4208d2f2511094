-- What lies inside a bound is accepted by it.
use Rattle.std.proofs.Common.{◌≡◌, ◌%◌, ◌==◌, Bool, true, false, not, ℕ, ◌+◌, ◌<◌, List, Some, length, drop, get_or, slice_get, refl, sym, ap, ◌∙◌, add-one, eq-eqb}
use Rattle.std.specs.List.{list_all}
use Rattle.std.specs.Ordering.{is_gt, is_le, is_ge}
use Rattle.std.specs.declared.cmp.Ordering.{Ordering}
use Rattle.std.specs.declared.cmp.Ordering.TheVariants.{Less, Equal, Greater}
use Rattle.std.proofs.lemmas.Bool.{eqb-true}
use Rattle.std.proofs.lemmas.List.Folds.{list_any_at, list_all_at}
use Rattle.std.proofs.Math.Seq.{drop-cons}
use Rattle.std.proofs.lemmas.Option.{slice_get_within, get_or_from_slice_get}
use Rattle.pg_values.specs.declared.value.Value.{Value}
use Rattle.pg_values.specs.declared.value.Value.TheVariants.{Null}
use Rattle.pg_values.specs.Hash.{key_hash}
use Rattle.bound_forms.specs.declared.partition_bound.Bound.TheVariants.{Range, List as Listed, Hash, Default}
use Rattle.bound_forms.specs.declared.point.Edge.{Edge}
use Rattle.bound_forms.specs.Points.{point_order, point_of}
use Rattle.bound_forms.specs.Listed.{is_same, lists, only}
use Rattle.bound_forms.specs.Moduli.{divides}
use Rattle.bound_forms.specs.Accepts.{accepts, has_null, lies_between}
use Rattle.bound_forms.specs.Within.{within, lists_all, leaves_outer, WithinAccepts}
use Rattle.bound_forms.proofs.OverlapLaws.{left, right}
use Rattle.bound_forms.proofs.ListedLaws.{found, same_trans}
use Rattle.bound_forms.proofs.PointOrder.{point_total}
use Rattle.bound_forms.proofs.Residues.{rest_of_rest}
use Rattle.bound_forms.proofs.TotalOrder.{turn, lt-gt, le_trans, lt_le}

le-not_gt : (r : Ordering) → is_le r ≡ true → is_gt r ≡ false
le-not_gt Less h = refl
le-not_gt Equal h = refl
le-not_gt Greater h = cc

not_gt-le : (r : Ordering) → is_gt r ≡ false → is_le r ≡ true
not_gt-le Less h = refl
not_gt-le Equal h = refl
not_gt-le Greater h = cc

-- above or at is not below, the other way round
ge-not_gt : (p q : List Edge) → is_ge (point_order p q) ≡ true → is_gt (point_order q p) ≡ false
ge-not_gt p q h = by (point_order p q) refl h
  where
    by : (r : Ordering) → point_order p q ≡ r → is_ge r ≡ true → is_gt (point_order q p) ≡ false
    by Less e h = cc
    by Equal e h = ap is_gt (turn point_total p q Equal e)
    by Greater e h = ap is_gt (turn point_total p q Greater e)

range_accepts : (l u m v : List Edge) (key : List Value) → within (Range l u) (Range m v) ≡ true → accepts key (Range l u) ≡ true → accepts key (Range m v) ≡ true
range_accepts l u m v key h k =
    let p = point_of key in
    let no_null : not (has_null key) ≡ true = left _ _ k in
    let inside : lies_between l u p ≡ true = right (not (has_null key)) (lies_between l u p) k in
    let above : is_le (point_order m p) ≡ true = not_gt-le (point_order m p) (le_trans point_total m l p (le-not_gt (point_order m l) (left _ _ h)) (le-not_gt (point_order l p) (left _ _ inside))) in
    let below : is_gt (point_order v p) ≡ true = sym (lt-gt point_total p v) ∙ lt_le point_total p u v (lt-gt point_total p u ∙ right _ _ inside) (ge-not_gt v u (right _ _ h)) in
    rw (no_null, above, below) refl

list_accepts : (values others : List Value) (key : Value) → lists_all values others ≡ true → lists values key ≡ true → lists others key ≡ true
list_accepts values others key all h =
    let one = found (λ v. is_same v key) values h in
    let v = get_or values one.0 Null in
    let two = found (λ w. is_same w v) others (listed one.0 one.1 (lists others v) refl) in
    list_any_at (λ w. is_same w key) others two.0 Null two.1 (same_trans (get_or others two.0 Null) v key (two.2 Null) (one.2 Null))
  where
    listed : (i : ℕ) → i < length values → (t : Bool) → lists others (get_or values i Null) ≡ t → t ≡ true
    listed i lt true e = refl
    listed i lt false e = sym (list_all_at (λ v. lists others v) values i Null lt e) ∙ all

hash_accepts : (m r n s h : ℕ) → leaves_outer m r n s ≡ true → h % m == r ≡ true → h % n == s ≡ true
hash_accepts m r n s h e k =
    let d : divides n m ≡ true = left _ _ e in
    let outer : r % n ≡ s = eqb-true (r % n) s (right (divides n m) (r % n == s) e) in
    let inner : h % m ≡ r = eqb-true (h % m) r k in
    eq-eqb (h % n) s (sym (rest_of_rest n m h d) ∙ ap (λ x. x % n) inner ∙ outer)

pub within_accepts : WithinAccepts
within_accepts (Range l u) (Range m v) key h k = range_accepts l u m v key h k
within_accepts (Listed values) (Listed others) key h k = list_accepts values others (only key) h k
within_accepts (Hash m r) (Hash n s) key h k = hash_accepts m r n s (key_hash key) h k
within_accepts (Range l u) (Listed others) key h k = cc
within_accepts (Range l u) (Hash n s) key h k = cc
within_accepts (Range l u) Default key h k = cc
within_accepts (Listed values) (Range m v) key h k = cc
within_accepts (Listed values) (Hash n s) key h k = cc
within_accepts (Listed values) Default key h k = cc
within_accepts (Hash m r) (Range l u) key h k = cc
within_accepts (Hash m r) (Listed others) key h k = cc
within_accepts (Hash m r) Default key h k = cc
within_accepts Default b key h k = cc

-- ---- the walk over the values

-- one that is not among the others settles it
pub all_failed : (test : Value → Bool) (values : List Value) (i : ℕ) (v : Value) → slice_get values i ≡ Some v → test v ≡ false → list_all test (drop i values) ≡ false
all_failed test values i v at_v fails = rw (drop-cons values i v (slice_get_within values i v at_v), get_or_from_slice_get values i v v at_v, fails) refl

-- at one that is among them the rest decides
pub all_passed : (test : Value → Bool) (values : List Value) (i : ℕ) (v : Value) → slice_get values i ≡ Some v → test v ≡ true → list_all test (drop i values) ≡ list_all test (drop (i + 1) values)
all_passed test values i v at_v passes = rw (drop-cons values i v (slice_get_within values i v at_v), get_or_from_slice_get values i v v at_v, passes, add-one) refl
