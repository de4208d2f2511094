-- Partition bounds of one level: when two overlap, and their plain order (5.11.2 Declarative Partitioning, CREATE TABLE).
use Rattle.std.specs.Prelude.{◌≡◌, ◌<◌, ℕ, nat_lt, ◌||◌, Bool, true, false, List, [], ◌∷◌, All, if◌then◌else◌}
use Rattle.std.specs.List.{AllPairs}
use Rattle.std.specs.declared.cmp.Ordering.{Ordering}
use Rattle.std.specs.Ordering.{is_lt, is_gt, nat_cmp, on, then_cmp}
use Rattle.std.specs.Cmp.Lexicographic.{slice_cmp}
use Rattle.pg_values.specs.declared.value.Value.{Value}
use Rattle.bound_forms.specs.declared.partition_bound.Bound.{Bound}
use Rattle.bound_forms.specs.declared.partition_bound.Bound.TheVariants.{Range, List as Listed, Hash, Default}
use Rattle.bound_forms.specs.declared.point.Edge.{Edge}
use Rattle.bound_forms.specs.Points.{point_order, PointsFit, EdgeOfKind}
use Rattle.bound_forms.specs.Moduli.{divides, meets}
use Rattle.bound_forms.specs.Listed.{share_value, listed_edge, least, ListsFit, ValueOfKind}

-- the first point lies below the second
abbrev pub is_below : List Edge → List Edge → Bool
is_below p q = is_lt (point_order p q)

-- the greater of two points
abbrev pub greater : List Edge → List Edge → List Edge
greater p q = if is_below p q then q else p

-- the lesser of two points
abbrev pub lesser : List Edge → List Edge → List Edge
lesser p q = if is_below p q then p else q

-- ranges overlap where the greater of the lower points lies below the lesser of the upper points, lists where they
-- share a value, null included, remainders where they agree modulo the lesser modulus and it is a factor of the other,
-- and two defaults always
abbrev pub overlaps : Bound → Bound → Bool
overlaps (Range l u) (Range m v) = is_below (greater l m) (lesser u v)
overlaps (Listed values) (Listed others) = share_value values others
overlaps (Hash m r) (Hash n s) = meets m r n s || meets n s m r
overlaps Default Default = true
overlaps _ _ = false

-- a range is not empty where its lower point lies below the upper one, a list where it lists a value, and a remainder
-- has to lie below the modulus
abbrev pub is_filled : Bound → Bool
is_filled (Range l u) = is_below l u
is_filled (Listed []) = false
is_filled (Listed (v ∷ values)) = true
is_filled (Hash modulus remainder) = nat_lt remainder modulus
is_filled Default = true

-- ---- plain order

-- the default stands behind all others
abbrev pub side : Bound → ℕ
side Default = 1
side _ = 0

-- remainders stand by modulus, then by remainder
abbrev pub numbers : Bound → List ℕ
numbers (Hash modulus remainder) = modulus ∷ (remainder ∷ [])
numbers _ = []

-- a range stands at its lower point, a list at its least value
abbrev pub stand : Bound → List Edge
stand (Range lower upper) = lower
stand (Listed values) = listed_edge (least values) ∷ []
stand _ = []

abbrev pub plain_order : Bound → Bound → Ordering
plain_order = then_cmp (on side nat_cmp) (then_cmp (on numbers (slice_cmp nat_cmp)) (on stand point_order))

-- the first bound stands behind the second in plain order
abbrev pub comes_after : Bound → Bound → Bool
comes_after a b = is_gt (plain_order a b)

-- the bounds with one more, before the first that comes after it
abbrev pub with_bound : Bound → List Bound → List Bound
with_bound b [] = b ∷ []
with_bound b (c ∷ cs) = if comes_after c b then b ∷ (c ∷ cs) else c ∷ with_bound b cs

-- the bounds with more, one after the other
abbrev pub with_bounds : List Bound → List Bound → List Bound
with_bounds [] bounds = bounds
with_bounds (b ∷ more) bounds = with_bounds more (with_bound b bounds)

-- the given bounds in plain order
abbrev pub in_plain_order : List Bound → List Bound
in_plain_order bounds = with_bounds bounds []

-- ---- bounds of one level

-- each value of the bound is one of the kind, and the bound is not empty
abbrev pub BoundOfKind : (Value → Type 0) → Bound → Type 0
BoundOfKind P (Range l u) = All (EdgeOfKind P) l × All (EdgeOfKind P) u × (is_below l u ≡ true)
BoundOfKind P (Listed values) = All (ValueOfKind P) values × ListsFit values values × (is_filled (Listed values) ≡ true)
BoundOfKind P (Hash modulus remainder) = remainder < modulus
BoundOfKind P Default = Unit {0}

-- it is so at each key kind of a type
abbrev pub BoundOfKinds : {S : Type 0} → (S → Value → Type 0) → Bound → Type 0
BoundOfKinds {S} admits b = (kind : S) → BoundOfKind (admits kind) b

-- DEFAULT can stand beside the bound: a level by hash has no default
abbrev pub takes_default : Bound → Bool
takes_default (Hash modulus remainder) = false
takes_default _ = true

-- the two are of one strategy, or one is DEFAULT; of two moduli one is a factor of the other
abbrev pub are_siblings : Bound → Bound → Bool
are_siblings Default b = takes_default b
are_siblings a Default = takes_default a
are_siblings (Range l u) (Range m v) = true
are_siblings (Listed values) (Listed others) = true
are_siblings (Hash m r) (Hash n s) = divides m n || divides n m
are_siblings _ _ = false

-- of one strategy they have values that can be compared
abbrev pub CanCompare : Bound → Bound → Type 0
CanCompare (Range l u) (Range m v) = PointsFit l m × PointsFit l v × PointsFit u m × PointsFit u v
CanCompare (Listed values) (Listed others) = ListsFit values others
CanCompare _ _ = Unit {0}

-- the two can stand side by side at one level
abbrev pub BoundsFit : Bound → Bound → Type 0
BoundsFit a b = (are_siblings a b ≡ true) × CanCompare a b

-- no bound comes after a later one or overlaps it, and all can stand side by side
pub record IsInPlainOrder (bounds : List Bound) : Type 0 where
  pub sorted : AllPairs (λ a b. comes_after a b ≡ false) bounds
  pub apart : AllPairs (λ a b. overlaps a b ≡ false) bounds
  pub siblings : AllPairs (λ a b. are_siblings a b ≡ true) bounds
