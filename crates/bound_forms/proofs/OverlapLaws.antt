-- When two bounds overlap, and which keys they share.
use Rattle.std.proofs.Common.{◌≡◌, ◌≢◌, ◌⊎◌, ◌&&◌, ◌||◌, Bool, true, false, not, ℕ, ◌<◌, List, Some, None, length, get_or, refl, sym, ap, subst, ◌∙◌, inl, inr, arith, if◌then◌else◌}
use Rattle.std.specs.List.{All, AllPairs, list_any, position}
use Rattle.std.specs.Ordering.{is_gt, is_lt}
use Rattle.std.specs.declared.cmp.Ordering.{Ordering}
use Rattle.std.specs.declared.cmp.Ordering.TheVariants.{Less, Equal, Greater}
use Rattle.std.proofs.lemmas.Bool.{cases_lt}
use Rattle.std.proofs.lemmas.List.{get_or_default}
use Rattle.std.proofs.lemmas.List.Folds.{list_any_none}
use Rattle.std.proofs.Math.Nat.{eq-or-lt_of_le}
use Rattle.pg_values.specs.declared.value.Value.{Value}
use Rattle.bound_forms.specs.declared.partition_bound.Bound.{Bound}
use Rattle.bound_forms.specs.declared.partition_bound.Bound.TheVariants.{Range, List as Listed, Hash, Default}
use Rattle.bound_forms.specs.declared.point.Edge.{Edge}
use Rattle.bound_forms.specs.Points.{point_order, point_of}
use Rattle.pg_values.specs.Hash.{key_hash}
use Rattle.bound_forms.specs.Moduli.{divides, meets}
use Rattle.bound_forms.specs.Listed.{only}
use Rattle.bound_forms.specs.Bounds.{is_below, greater, lesser, overlaps, are_siblings}
use Rattle.bound_forms.specs.Accepts.{accepts, accepts_among, is_default, has_null, lies_between}
use Rattle.bound_forms.specs.Laws.{NoCommonKey, AtMostOneAccepts, DefaultAcceptsTheRest}
use Rattle.bound_forms.proofs.Choice.{fails_at, position_same, position_passes, position-None}
use Rattle.bound_forms.proofs.ListedLaws.{share_turned, not_shared}
use Rattle.bound_forms.proofs.Residues.{no_common_residue}
use Rattle.bound_forms.proofs.PointOrder.{point_total}
use Rattle.bound_forms.proofs.TotalOrder.{turn, lt-gt, le_lt, lt_le, lt_lt, around, not_lt-le}

and_true : (t : Bool) → t ≡ t && true
and_true true = refl
and_true false = refl

both : (a b : Bool) → a ≡ true → b ≡ true → true ≡ a && b
both a b h k = rw (h, k) refl

-- of two ranges that are not empty each begins before the other ends, exactly where they overlap
pub overlap_of_filled : (l u m v : List Edge) → is_below l u ≡ true → is_below m v ≡ true
    → is_below (greater m l) (lesser v u) ≡ is_lt (point_order l v) && is_gt (point_order u m)
overlap_of_filled l u m v f g = by (is_below m l) refl (is_below v u) refl
  where
    above : is_below m u ≡ true → is_gt (point_order u m) ≡ true
    above h = sym (lt-gt point_total m u) ∙ h

    by : (x : Bool) → is_below m l ≡ x → (y : Bool) → is_below v u ≡ y
        → is_below (if x then l else m) (if y then v else u) ≡ is_lt (point_order l v) && is_gt (point_order u m)
    by true e true k = and_true (is_below l v) ∙ ap (λ t. is_below l v && t) (sym (above (lt_lt point_total m v u g k)))
    by true e false k = f ∙ both _ _ (lt_le point_total l u v f (not_lt-le point_total v u k)) (above (lt_lt point_total m l u e f))
    by false e true k = g ∙ both _ _ (le_lt point_total l m v (not_lt-le point_total m l e) g) (above (lt_lt point_total m v u g k))
    by false e false k = lt-gt point_total m u ∙ ap (λ t. t && is_gt (point_order u m)) (sym (le_lt point_total l m v (not_lt-le point_total m l e) g))

pub overlap_if_begun : (l u m v : List Edge) → is_below l u ≡ true → is_below m v ≡ true → is_lt (point_order l v) ≡ true
    → is_gt (point_order u m) ≡ is_below (greater m l) (lesser v u)
overlap_if_begun l u m v f g h = sym (overlap_of_filled l u m v f g ∙ ap (λ t. t && is_gt (point_order u m)) h)

pub overlap_if_ended : (l u m v : List Edge) → is_below l u ≡ true → is_below m v ≡ true → is_lt (point_order l v) ≡ false
    → false ≡ is_below (greater m l) (lesser v u)
overlap_if_ended l u m v f g h = sym (overlap_of_filled l u m v f g ∙ ap (λ t. t && is_gt (point_order u m)) h)

greater_turned : (l m p : List Edge) → is_below (greater l m) p ≡ is_below (greater m l) p
greater_turned l m p = by (point_order l m) refl
  where
    by : (r : Ordering) → point_order l m ≡ r → is_below (greater l m) p ≡ is_below (greater m l) p
    by Less e = rw (e, turn point_total l m Less e) refl
    by Equal e = rw (e, turn point_total l m Equal e) (ap is_lt (point_total.congr l m p e))
    by Greater e = rw (e, turn point_total l m Greater e) refl

lesser_turned : (u v p : List Edge) → is_below p (lesser u v) ≡ is_below p (lesser v u)
lesser_turned u v p = by (point_order u v) refl
  where
    by : (r : Ordering) → point_order u v ≡ r → is_below p (lesser u v) ≡ is_below p (lesser v u)
    by Less e = rw (e, turn point_total u v Less e) refl
    by Equal e = rw (e, turn point_total u v Equal e) (lt-gt point_total p v ∙ ap is_gt (sym (point_total.congr u v p e)) ∙ sym (lt-gt point_total p u))
    by Greater e = rw (e, turn point_total u v Greater e) refl

or_turned : (s t : Bool) → s || t ≡ t || s
or_turned true true = refl
or_turned true false = refl
or_turned false true = refl
or_turned false false = refl

-- it does not matter which of the two is named first
pub overlaps_turned : (a b : Bound) → overlaps a b ≡ overlaps b a
overlaps_turned (Range l u) (Range m v) = greater_turned l m (lesser u v) ∙ lesser_turned u v (greater m l)
overlaps_turned (Listed values) (Listed others) = share_turned values others
overlaps_turned (Hash m r) (Hash n s) = or_turned (meets m r n s) (meets n s m r)
overlaps_turned Default Default = refl
overlaps_turned (Range l u) (Listed values) = refl
overlaps_turned (Range l u) (Hash n s) = refl
overlaps_turned (Range l u) Default = refl
overlaps_turned (Listed values) (Range l u) = refl
overlaps_turned (Listed values) (Hash n s) = refl
overlaps_turned (Listed values) Default = refl
overlaps_turned (Hash m r) (Range l u) = refl
overlaps_turned (Hash m r) (Listed values) = refl
overlaps_turned (Hash m r) Default = refl
overlaps_turned Default (Range l u) = refl
overlaps_turned Default (Listed values) = refl
overlaps_turned Default (Hash n s) = refl

pub siblings_turn : (a b : Bound) → are_siblings a b ≡ are_siblings b a
siblings_turn (Range l u) (Range m v) = refl
siblings_turn (Listed values) (Listed others) = refl
siblings_turn (Hash m r) (Hash n s) = or_turned (divides m n) (divides n m)
siblings_turn Default Default = refl
siblings_turn (Range l u) (Listed values) = refl
siblings_turn (Range l u) (Hash n s) = refl
siblings_turn (Range l u) Default = refl
siblings_turn (Listed values) (Range l u) = refl
siblings_turn (Listed values) (Hash n s) = refl
siblings_turn (Listed values) Default = refl
siblings_turn (Hash m r) (Range l u) = refl
siblings_turn (Hash m r) (Listed values) = refl
siblings_turn (Hash m r) Default = refl
siblings_turn Default (Range l u) = refl
siblings_turn Default (Listed values) = refl
siblings_turn Default (Hash n s) = refl

pub left : (a b : Bool) → a && b ≡ true → a ≡ true
left true b h = refl
left false b h = h

pub right : (a b : Bool) → a && b ≡ true → b ≡ true
right true b h = h
right false b h = cc

-- a point that two ranges contain lies in both, so they overlap
common_point : (l u m v p : List Edge) → lies_between l u p ≡ true → lies_between m v p ≡ true
    → is_below (greater l m) (lesser u v) ≡ true
common_point l u m v p h k = by (is_below l m) (is_below u v)
  where
    by : (x y : Bool) → is_below (if x then m else l) (if y then u else v) ≡ true
    by true true = around point_total m u p (left _ _ k) (right _ _ h)
    by true false = around point_total m v p (left _ _ k) (right _ _ k)
    by false true = around point_total l u p (left _ _ h) (right _ _ h)
    by false false = around point_total l v p (left _ _ h) (right _ _ k)

range_no_common : (l u m v : List Edge) (key : List Value) → overlaps (Range l u) (Range m v) ≡ false → accepts key (Range l u) ≡ true → accepts key (Range m v) ≡ false
range_no_common l u m v key apart h = by (accepts key (Range m v)) refl
  where
    p : List Edge
    p = point_of key

    in_first : lies_between l u p ≡ true
    in_first = right (not (has_null key)) (lies_between l u p) h

    by : (t : Bool) → accepts key (Range m v) ≡ t → t ≡ false
    by false e = refl
    by true e = sym (common_point l u m v p in_first (right (not (has_null key)) (lies_between m v p) e)) ∙ apart

pub no_common : NoCommonKey
no_common (Range l u) (Range m v) key s apart h = range_no_common l u m v key apart h
no_common (Listed values) (Listed others) key s apart h = not_shared values others (only key) apart h
no_common (Hash m r) (Hash n t) key s apart h = no_common_residue m r n t (key_hash key) s apart h
no_common (Range l u) (Listed values) key s apart h = cc
no_common (Range l u) (Hash n t) key s apart h = cc
no_common (Listed values) (Range l u) key s apart h = cc
no_common (Listed values) (Hash n t) key s apart h = cc
no_common (Hash m r) (Range l u) key s apart h = cc
no_common (Hash m r) (Listed values) key s apart h = cc
no_common (Hash m r) Default key s apart h = refl
no_common (Range l u) Default key s apart h = refl
no_common (Listed values) Default key s apart h = refl
no_common Default b key s apart h = cc

differ : {t : Bool} → t ≡ false → t ≡ true → ⊥
differ e f = cc

-- at most one accepts by itself
pub at_most_one : (bounds : List Bound) (key : List Value) (i j : ℕ) (d : Bound) → AllPairs (λ a b. are_siblings a b ≡ true) bounds → AllPairs (λ a b. overlaps a b ≡ false) bounds
    → i < length bounds → j < length bounds → accepts key (get_or bounds i d) ≡ true → accepts key (get_or bounds j d) ≡ true → i ≡ j
at_most_one bounds key i j d siblings apart lt le h k =
    elim (cases_lt i j) [
      | inl below ↦ absurd (differ (no_common _ _ key (siblings i j d below le) (apart i j d below le) h) k)
      | inr above ↦ elim (eq-or-lt_of_le above) [
        | inl e ↦ sym e
        | inr below ↦ absurd (differ (no_common _ _ key (siblings j i d below lt) (apart j i d below lt) k) h)
      ]
    ]

-- two defaults overlap
two_defaults : (a b : Bound) → is_default a ≡ true → is_default b ≡ true → overlaps a b ≡ false → ⊥
two_defaults Default Default h k apart = cc
two_defaults (Range l u) b h k apart = cc
two_defaults (Listed values) b h k apart = cc
two_defaults (Hash m r) b h k apart = cc
two_defaults Default (Hash n s) h k apart = cc
two_defaults Default (Range l u) h k apart = cc
two_defaults Default (Listed values) h k apart = cc

one_default : (bounds : List Bound) (i j : ℕ) (d : Bound) → AllPairs (λ a b. overlaps a b ≡ false) bounds
    → i < length bounds → j < length bounds → is_default (get_or bounds i d) ≡ true → is_default (get_or bounds j d) ≡ true → i ≡ j
one_default bounds i j d apart lt le h k =
    elim (cases_lt i j) [
      | inl below ↦ absurd (two_defaults _ _ h k (apart i j d below le))
      | inr above ↦ elim (eq-or-lt_of_le above) [
        | inl e ↦ sym e
        | inr below ↦ absurd (two_defaults _ _ k h (apart j i d below lt))
      ]
    ]

-- a bound accepts by itself, or it is the default and none does
data Accepting (bounds : List Bound) (key : List Value) (b : Bound) : Type 0 where
  itself : accepts key b ≡ true → Accepting bounds key b
  as_default : is_default b ≡ true → list_any (accepts key) bounds ≡ false → Accepting bounds key b

accepting : (bounds : List Bound) (key : List Value) (b : Bound) → accepts_among bounds key b ≡ true → Accepting bounds key b
accepting bounds key b h = by (accepts key b) refl (is_default b) refl (list_any (accepts key) bounds) refl h
  where
    by : (s : Bool) → accepts key b ≡ s → (t : Bool) → is_default b ≡ t → (r : Bool) → list_any (accepts key) bounds ≡ r → s || (t && not r) ≡ true → Accepting bounds key b
    by true e t f r g h = itself e
    by false e true f false g h = as_default f g
    by false e true f true g h = cc
    by false e false f r g h = cc

pub at_most_one_among : AtMostOneAccepts
at_most_one_among bounds key i j d siblings apart lt le h k = by (accepting bounds key (get_or bounds i d) h) (accepting bounds key (get_or bounds j d) k)
  where
    by : Accepting bounds key (get_or bounds i d) → Accepting bounds key (get_or bounds j d) → i ≡ j
    by (itself a) (itself b) = at_most_one bounds key i j d siblings apart lt le a b
    by (itself a) (as_default b none) = absurd (differ (fails_at (accepts key) bounds i d lt none) a)
    by (as_default a none) (itself b) = absurd (differ (fails_at (accepts key) bounds j d le none) b)
    by (as_default a none) (as_default b _) = one_default bounds i j d apart lt le a b

eq_or_not : (j i : ℕ) → (j ≡ i) ⊎ (j ≢ i)
eq_or_not j i = elim (cases_lt j i) [
  | inl below ↦ inr (λ e. omega arith)
  | inr above ↦ elim (eq-or-lt_of_le above) [
    | inl e ↦ inl (sym e)
    | inr below ↦ inr (λ e. omega arith)
  ]
]

itself_not : (s t : Bool) → s || t ≡ false → s ≡ false
itself_not false t h = refl
itself_not true t h = cc

-- a default by itself accepts nothing
pub default_alone : (key : List Value) (b : Bound) → is_default b ≡ true → accepts key b ≡ false
default_alone key Default h = refl
default_alone key (Range l u) h = cc
default_alone key (Listed values) h = cc
default_alone key (Hash m r) h = cc

pub default_rest : DefaultAcceptsTheRest
default_rest bounds key i d apart lt h = (forth, back)
  where
    forth : accepts_among bounds key (get_or bounds i d) ≡ true → (j : ℕ) → j < length bounds → j ≢ i → accepts_among bounds key (get_or bounds j d) ≡ false
    forth a j le other = by (accepting bounds key (get_or bounds i d) a) (accepts_among bounds key (get_or bounds j d)) refl
      where
        by : Accepting bounds key (get_or bounds i d) → (t : Bool) → accepts_among bounds key (get_or bounds j d) ≡ t → t ≡ false
        by _ false e = refl
        by (itself b) true e = absurd (differ (default_alone key (get_or bounds i d) h) b)
        by (as_default b none) true e = contrary (accepting bounds key (get_or bounds j d) e)
          where
            contrary : Accepting bounds key (get_or bounds j d) → true ≡ false
            contrary (itself c) = absurd (differ (fails_at (accepts key) bounds j d le none) c)
            contrary (as_default c _) = absurd (other (one_default bounds j i d apart le lt c h))

    back : ((j : ℕ) → j < length bounds → j ≢ i → accepts_among bounds key (get_or bounds j d) ≡ false) → accepts_among bounds key (get_or bounds i d) ≡ true
    back all = rw (default_alone key (get_or bounds i d) h, h, list_any_none (accepts key) bounds each) refl
      where
        alone : (j : ℕ) → j < length bounds → accepts key (get_or bounds j d) ≡ false
        alone j le = elim (eq_or_not j i) [
          | inl e ↦ subst (λ k. accepts key (get_or bounds k d) ≡ false) (sym e) (default_alone key (get_or bounds i d) h)
          | inr other ↦ itself_not (accepts key (get_or bounds j d)) _ (all j le other)
        ]

        each : All (λ b. accepts key b ≡ false) bounds
        each j e le = subst (λ b. accepts key b ≡ false) (get_or_default bounds j d e le) (alone j le)

-- ---- the bound that accepts among all

-- the bound that accepts by itself is the one
pub own_is : (key : List Value) (bounds : List Bound) (i : ℕ) → position (accepts key) bounds ≡ Some i → position (accepts_among bounds key) bounds ≡ Some i
own_is key bounds i e = position_same (accepts_among bounds key) (accepts key) bounds same ∙ e
  where
    same : All (λ b. accepts_among bounds key b ≡ accepts key b) bounds
    same k d lt = rw (position_passes (accepts key) bounds i e) (by (accepts key (get_or bounds k d)) (is_default (get_or bounds k d)))
      where
        by : (s t : Bool) → s || (t && false) ≡ s
        by true t = refl
        by false true = refl
        by false false = refl

-- where none accepts by itself, the default does
pub default_is : (key : List Value) (bounds : List Bound) → position (accepts key) bounds ≡ None → position (accepts_among bounds key) bounds ≡ position is_default bounds
default_is key bounds e = position_same (accepts_among bounds key) is_default bounds same
  where
    none : All (λ b. accepts key b ≡ false) bounds
    none = position-None (accepts key) bounds e

    same : All (λ b. accepts_among bounds key b ≡ is_default b) bounds
    same k d lt = rw (none k d lt, list_any_none (accepts key) bounds none) (by (is_default (get_or bounds k d)))
      where
        by : (t : Bool) → t && true ≡ t
        by true = refl
        by false = refl

-- the default among all
pub default_among : (bounds : List Bound) (key : List Value) (b : Bound) → is_default b ≡ true → accepts_among bounds key b ≡ not (list_any (accepts key) bounds)
default_among bounds key b h = rw (default_alone key b h, h) refl

-- and another bound
pub other_among : (bounds : List Bound) (key : List Value) (b : Bound) → is_default b ≡ false → accepts_among bounds key b ≡ accepts key b
other_among bounds key b h = rw h (by (accepts key b))
  where
    by : (s : Bool) → s || false ≡ s
    by true = refl
    by false = refl
