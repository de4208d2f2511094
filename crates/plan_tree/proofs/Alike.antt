-- Keys that are equal value by value are accepted alike by equal bounds.
use Rattle.std.proofs.Common.{◌≡◌, ℕ, zero, suc, ◌==◌, ◌||◌, ◌<◌, arith, Bool, true, false, List, [], ◌∷◌, length, refl, sym, ap, ◌∙◌}
use Rattle.std.specs.Prelude.{slice_index_or}
use Rattle.std.specs.List.{list_any}
use Rattle.std.specs.Cmp.{alike_right}
use Rattle.std.specs.Ordering.{is_eq}
use Rattle.std.specs.declared.cmp.Ordering.{Ordering}
use Rattle.std.specs.declared.cmp.Ordering.TheVariants.{Less, Equal, Greater}
use Rattle.std.proofs.lemmas.Bool.{and_parts}
use Rattle.std.proofs.lemmas.Grind.{common_steps}
use Rattle.pg_values.specs.declared.value.Value.{Value}
use Rattle.pg_values.specs.declared.value.Value.TheVariants.{Null, Int4, Int8, Text, Day, Truth}
use Rattle.pg_values.specs.Hash.{value_hash, combined, next_hash, key_hash_from}
use Rattle.pg_values.specs.KeyKinds.{order_total, hash_alike}
use Rattle.pg_values.specs.Order.{order}
use Rattle.bound_forms.specs.declared.partition_bound.Bound.{Bound}
use Rattle.bound_forms.specs.declared.partition_bound.Bound.TheVariants.{Range, List as Listed, Hash, Default}
use Rattle.bound_forms.specs.declared.point.Edge.{Edge}
use Rattle.bound_forms.specs.Accepts.{has_null, lies_between, accepts, is_default, accepts_among}
use Rattle.bound_forms.specs.Listed.{is_same, lists, only}
use Rattle.bound_forms.specs.Points.{point_order, point_of, is_null}
use Rattle.bound_forms.specs.Within.{lists_all}
use Rattle.bound_forms.proofs.PointOrder.{point_total}
use Rattle.plan_tree.specs.Partitionwise.{are_equal, each_equal}

-- ---- keys

-- equal, and neither is null
abbrev pub Alike : Value → Value → Type 0
Alike v w = (order v w ≡ Equal) × (is_null v ≡ false) × (is_null w ≡ false)

abbrev pub AreAlike : List Value → List Value → Type 0
AreAlike [] [] = Unit {0}
AreAlike [] (w ∷ ws) = ⊥
AreAlike (v ∷ vs) [] = ⊥
AreAlike (v ∷ vs) (w ∷ ws) = Alike v w × AreAlike vs ws

pub equal_of : (o : Ordering) → is_eq o ≡ true → o ≡ Equal
equal_of Less h = cc
equal_of Equal h = refl
equal_of Greater h = cc

-- ---- ranges

no_nulls : (vs ws : List Value) → AreAlike vs ws → (has_null vs ≡ false) × (has_null ws ≡ false)
no_nulls [] [] h = (refl, refl)
no_nulls [] (w ∷ ws) h = absurd h
no_nulls (v ∷ vs) [] h = absurd h
no_nulls (v ∷ vs) (w ∷ ws) h = let rest = no_nulls vs ws h.1 in (rw (h.0.1) rest.0, rw (h.0.2) rest.1)

points_alike : (vs ws : List Value) → AreAlike vs ws → point_order (point_of vs) (point_of ws) ≡ Equal
points_alike [] [] h = refl
points_alike [] (w ∷ ws) h = absurd h
points_alike (v ∷ vs) [] h = absurd h
points_alike (v ∷ vs) (w ∷ ws) h = rw (h.0.0) (points_alike vs ws h.1)

-- points that are equal stand alike to points that are equal
order_alike : (l m p q : List Edge) → point_order l m ≡ Equal → point_order p q ≡ Equal → point_order l p ≡ point_order m q
order_alike l m p q low same = point_total.congr l m p low ∙ alike_right point_total p q m same

between_alike : (l u m v p q : List Edge) → point_order l m ≡ Equal → point_order u v ≡ Equal → point_order p q ≡ Equal → lies_between l u p ≡ lies_between m v q
between_alike l u m v p q low high same = rw (order_alike l m p q low same, order_alike u v p q high same) refl

-- ---- lists

lists_alike : (values : List Value) (v w : Value) → order v w ≡ Equal → lists values v ≡ lists values w
lists_alike [] v w e = refl
lists_alike (u ∷ us) v w e = rw (alike_right order_total v w u e, lists_alike us v w e) refl

-- what is listed is among those that have each value
listed_too : (values others : List Value) (v : Value) → lists_all values others ≡ true → lists values v ≡ true → lists others v ≡ true
listed_too [] others v all h = cc
listed_too (u ∷ us) others v all h =
    let parts = and_parts (lists others u) (lists_all us others) all in
    by (is_same u v) refl h parts.0 (λ k. listed_too us others v parts.1 k)
  where
    by : (b : Bool) → is_same u v ≡ b → (b || lists us v) ≡ true → lists others u ≡ true → (lists us v ≡ true → lists others v ≡ true) → lists others v ≡ true
    by true same k here go = sym (lists_alike others u v (equal_of (order u v) same)) ∙ here
    by false same k here go = go k

both_ways : (a b : Bool) → (a ≡ true → b ≡ true) → (b ≡ true → a ≡ true) → a ≡ b
both_ways true true f g = refl
both_ways true false f g = sym (f refl)
both_ways false true f g = g refl
both_ways false false f g = refl

same_lists : (values others : List Value) (v w : Value) → lists_all values others ≡ true → lists_all others values ≡ true → order v w ≡ Equal → lists values v ≡ lists others w
same_lists values others v w to back e =
    both_ways (lists values v) (lists others v) (listed_too values others v to) (listed_too others values v back) ∙ lists_alike others v w e

only_alike : (vs ws : List Value) → AreAlike vs ws → order (only vs) (only ws) ≡ Equal
only_alike [] [] h = refl
only_alike [] (w ∷ ws) h = absurd h
only_alike (v ∷ vs) [] h = absurd h
only_alike (v ∷ vs) (w ∷ ws) h = h.0.0

-- ---- hashes

next_is : (acc : ℕ) (v : Value) → is_null v ≡ false → next_hash acc v ≡ combined acc (value_hash v)
next_is acc Null h = cc
next_is acc (Int4 n) h = refl
next_is acc (Int8 n) h = refl
next_is acc (Text s) h = refl
next_is acc (Day n) h = refl
next_is acc (Truth b) h = refl

next_alike : (acc : ℕ) (v w : Value) → Alike v w → next_hash acc v ≡ next_hash acc w
next_alike acc v w h = next_is acc v h.1 ∙ ap (combined acc) (hash_alike v w h.0) ∙ sym (next_is acc w h.2)

hashes_alike : (acc : ℕ) (vs ws : List Value) → AreAlike vs ws → key_hash_from acc vs ≡ key_hash_from acc ws
hashes_alike acc [] [] h = refl
hashes_alike acc [] (w ∷ ws) h = absurd h
hashes_alike acc (v ∷ vs) [] h = absurd h
hashes_alike acc (v ∷ vs) (w ∷ ws) h = ap (λ n. key_hash_from n vs) (next_alike acc v w h.0) ∙ hashes_alike (next_hash acc w) vs ws h.1

same_number : (m n : ℕ) → (m == n) ≡ true → m ≡ n
same_number m n h = grind (arith, common_steps, h)

-- ---- bounds

module _ (key other : List Value) (alike : AreAlike key other) where
  accepts_alike : (b c : Bound) → are_equal b c ≡ true → accepts key b ≡ accepts other c
  accepts_alike (Range l u) (Range m v) h =
      let parts = and_parts (is_eq (point_order l m)) (is_eq (point_order u v)) h in
      let nulls = no_nulls key other alike in
      rw (nulls.0, nulls.1) (between_alike l u m v (point_of key) (point_of other) (equal_of (point_order l m) parts.0) (equal_of (point_order u v) parts.1) (points_alike key other alike))
  accepts_alike (Listed values) (Listed others) h =
      let parts = and_parts (lists_all values others) (lists_all others values) h in
      same_lists values others (only key) (only other) parts.0 parts.1 (only_alike key other alike)
  accepts_alike (Hash m r) (Hash n s) h =
      let parts = and_parts (m == n) (r == s) h in
      rw (hashes_alike 0 key other alike, same_number m n parts.0, same_number r s parts.1) refl
  accepts_alike Default Default h = refl
  accepts_alike (Range l u) (Listed others) h = cc
  accepts_alike (Range l u) (Hash n s) h = cc
  accepts_alike (Range l u) Default h = cc
  accepts_alike (Listed values) (Range m v) h = cc
  accepts_alike (Listed values) (Hash n s) h = cc
  accepts_alike (Listed values) Default h = cc
  accepts_alike (Hash m r) (Range k v) h = cc
  accepts_alike (Hash m r) (Listed others) h = cc
  accepts_alike (Hash m r) Default h = cc
  accepts_alike Default (Range m v) h = cc
  accepts_alike Default (Listed others) h = cc
  accepts_alike Default (Hash n s) h = cc

  any_alike : (bs cs : List Bound) → each_equal bs cs ≡ true → list_any (accepts key) bs ≡ list_any (accepts other) cs
  any_alike [] [] h = refl
  any_alike [] (c ∷ cs) h = cc
  any_alike (b ∷ bs) [] h = cc
  any_alike (b ∷ bs) (c ∷ cs) h = let parts = and_parts (are_equal b c) (each_equal bs cs) h in rw (accepts_alike b c parts.0, any_alike bs cs parts.1) refl

default_alike : (b c : Bound) → are_equal b c ≡ true → is_default b ≡ is_default c
default_alike (Range l u) (Range m v) h = refl
default_alike (Listed values) (Listed others) h = refl
default_alike (Hash m r) (Hash n s) h = refl
default_alike Default Default h = refl
default_alike (Range l u) (Listed others) h = refl
default_alike (Range l u) (Hash n s) h = refl
default_alike (Range l u) Default h = cc
default_alike (Listed values) (Range m v) h = refl
default_alike (Listed values) (Hash n s) h = refl
default_alike (Listed values) Default h = cc
default_alike (Hash m r) (Range k v) h = refl
default_alike (Hash m r) (Listed others) h = refl
default_alike (Hash m r) Default h = cc
default_alike Default (Range m v) h = cc
default_alike Default (Listed others) h = cc
default_alike Default (Hash n s) h = cc

-- among bounds that are equal one by one
pub among_alike : (key other : List Value) → AreAlike key other → (bs cs : List Bound) → each_equal bs cs ≡ true → (b c : Bound) → are_equal b c ≡ true → accepts_among bs key b ≡ accepts_among cs other c
among_alike key other alike bs cs each b c h = rw (accepts_alike key other alike b c h, default_alike b c h, any_alike key other alike bs cs each) refl

-- ---- at a place

pub equal_at : (bs cs : List Bound) (i : ℕ) (d : Bound) → each_equal bs cs ≡ true → i < length bs → are_equal (slice_index_or bs i d) (slice_index_or cs i d) ≡ true
equal_at [] [] i d h lt = absurd (omega (arith, lt))
equal_at [] (c ∷ cs) i d h lt = cc
equal_at (b ∷ bs) [] i d h lt = cc
equal_at (b ∷ bs) (c ∷ cs) zero d h lt = (and_parts (are_equal b c) (each_equal bs cs) h).0
equal_at (b ∷ bs) (c ∷ cs) (suc i) d h lt = equal_at bs cs i d (and_parts (are_equal b c) (each_equal bs cs) h).1 (omega (arith, lt))

pub as_many : (bs cs : List Bound) → each_equal bs cs ≡ true → length bs ≡ length cs
as_many [] [] h = refl
as_many [] (c ∷ cs) h = cc
as_many (b ∷ bs) [] h = cc
as_many (b ∷ bs) (c ∷ cs) h = ap suc (as_many bs cs (and_parts (are_equal b c) (each_equal bs cs) h).1)
