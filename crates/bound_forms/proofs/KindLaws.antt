-- Values of one kind can be compared.
use Rattle.std.proofs.Common.{◌≡◌, ◌+◌, Bool, true, false, ◌||◌, List, [], ◌∷◌, length, get_or, refl, sym, ap, ◌∙◌, arith}
use Rattle.std.specs.List.{All}
use Rattle.std.proofs.lemmas.List.Elements.{All-cons, All-nil}
use Rattle.pg_values.specs.declared.value.Kind.{Kind}
use Rattle.pg_values.specs.declared.value.Value.{Value}
use Rattle.pg_values.specs.declared.value.Value.TheVariants.{Null, Int4, Int8, Text, Day, Truth}
use Rattle.pg_values.specs.Order.{AreComparable}
use Rattle.pg_values.specs.Kinds.{kind_of}
use Rattle.pg_values.specs.KeyKinds.{IsNotNull}
use Rattle.bound_forms.specs.declared.level.KeyColumn.{KeyColumn}
use Rattle.bound_forms.specs.declared.point.Edge.{Edge}
use Rattle.bound_forms.specs.declared.point.Edge.TheVariants.{Min, At, Max}
use Rattle.bound_forms.specs.Points.{is_null, EdgesFit, PointsFit, EdgeOfKind}
use Rattle.bound_forms.specs.Listed.{ValuesFit, ValueOfKind}
use Rattle.bound_forms.specs.Levels.{IsOf, IsEdgeOf, HasEdges}

-- not null, and of the kind
abbrev pub IsKind : Kind → Value → Type 0
IsKind kind v = (is_null v ≡ false) × (kind_of v ≡ kind)

pub kinds_compare : (v w : Value) (kind : Kind) → IsKind kind v → IsKind kind w → AreComparable v w
kinds_compare (Int4 m) (Int4 n) kind h k = refl
kinds_compare (Int4 m) (Int8 n) kind h k = refl
kinds_compare (Int8 m) (Int4 n) kind h k = refl
kinds_compare (Int8 m) (Int8 n) kind h k = refl
kinds_compare (Text s) (Text t) kind h k = refl
kinds_compare (Day m) (Day n) kind h k = refl
kinds_compare (Truth p) (Truth q) kind h k = refl
kinds_compare Null w kind h k = let wrong : true ≡ false = h.0 in cc
kinds_compare v Null kind h k = let wrong : true ≡ false = k.0 in cc
kinds_compare v w kind h k = let wrong : kind_of v ≡ kind_of w = h.1 ∙ sym k.1 in cc

pub not_null : (v : Value) → is_null v ≡ false → IsNotNull v
not_null Null h = cc
not_null (Int4 n) h = tt
not_null (Int8 n) h = tt
not_null (Text s) h = tt
not_null (Day d) h = tt
not_null (Truth p) h = tt

edges_compare : (x y : Edge) (kind : Kind) → IsEdgeOf kind x → IsEdgeOf kind y → EdgesFit x y
edges_compare (At v) (At w) kind h k = kinds_compare v w kind h k
edges_compare Min y kind h k = tt
edges_compare Max y kind h k = tt
edges_compare (At v) Min kind h k = tt
edges_compare (At v) Max kind h k = tt

-- two points of the same key columns can be compared
pub points_compare : (columns : List KeyColumn) (p q : List Edge) → HasEdges columns p → HasEdges columns q → PointsFit p q
points_compare [] p q h k = rw (h, k) (tt, tt)
points_compare (c ∷ columns) [] q h k = absurd h
points_compare (c ∷ columns) (x ∷ p) [] h k = absurd k
points_compare (c ∷ columns) (x ∷ p) (y ∷ q) h k = (edges_compare x y c.kind h.0 k.0, points_compare columns p q h.1 k.1)

edge_not_null : (x : Edge) (kind : Kind) → IsEdgeOf kind x → EdgeOfKind IsNotNull x
edge_not_null Min kind h = tt
edge_not_null (At v) kind h = not_null v h.0
edge_not_null Max kind h = tt

pub point_not_null : (columns : List KeyColumn) (p : List Edge) → HasEdges columns p → All (EdgeOfKind IsNotNull) p
point_not_null [] p h = rw h (All-cons (EdgeOfKind IsNotNull) Min [] tt (All-nil (EdgeOfKind IsNotNull)))
point_not_null (c ∷ columns) [] h = absurd h
point_not_null (c ∷ columns) (x ∷ p) h = All-cons (EdgeOfKind IsNotNull) x p (edge_not_null x c.kind h.0) (point_not_null columns p h.1)

pub or_left : (s t : Bool) → s || t ≡ false → s ≡ false
or_left false t h = refl
or_left true t h = h

pub or_right : (s t : Bool) → s || t ≡ false → t ≡ false
or_right false t h = h
or_right true t h = cc

-- a point has an edge for each key column and one behind them
pub point_length : (columns : List KeyColumn) (p : List Edge) → HasEdges columns p → length p ≡ length columns + 1
point_length [] p h = ap length h
point_length (c ∷ columns) [] h = absurd h
point_length (c ∷ columns) (e ∷ p) h = omega (arith, point_length columns p h.1)

pub all_fit : (kind : Kind) (done : List Value) (v : Value) → All (IsOf kind) done → IsOf kind v → All (λ w. ValuesFit w v) done
all_fit kind done v all here i d lt h g = kinds_compare (get_or done i d) v kind (h, all i d lt h) (g, here g)

pub all_not_null : (kind : Kind) (done : List Value) → All (IsOf kind) done → All (ValueOfKind IsNotNull) done
all_not_null kind done all i d lt h = not_null (get_or done i d) h
