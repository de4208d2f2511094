-- Points of a range, their order, and which points can be compared (5.11.2 Declarative Partitioning, CREATE TABLE).
use Rattle.std.specs.Prelude.{Bool, true, false, List, [], ◌∷◌, ◌++◌, map, ℕ, ◌-◌, take, replicate, nat_lt, if◌then◌else◌}
use Rattle.std.specs.List.{AllZip, slice_index_or}
use Rattle.std.specs.declared.cmp.Ordering.{Ordering}
use Rattle.std.specs.declared.cmp.Ordering.TheVariants.{Less, Equal, Greater}
use Rattle.std.specs.Cmp.Lexicographic.{slice_cmp}
use Rattle.pg_values.specs.declared.value.Value.{Value}
use Rattle.pg_values.specs.declared.value.Value.TheVariants.{Null}
use Rattle.pg_values.specs.Order.{order, AreComparable}
use Rattle.bound_forms.specs.declared.point.Edge.{Edge}
use Rattle.bound_forms.specs.declared.point.Edge.TheVariants.{Min, At, Max}
use Rattle.bound_forms.specs.declared.point.Fill.{Fill}
use Rattle.bound_forms.specs.declared.point.Fill.TheVariants.{Min as WithMin, Max as WithMax}

-- MINVALUE below each value, MAXVALUE above
abbrev pub edge_order : Edge → Edge → Ordering
edge_order Min Min = Equal
edge_order Min (At y) = Less
edge_order Min Max = Less
edge_order (At x) Min = Greater
edge_order (At x) (At y) = order x y
edge_order (At x) Max = Less
edge_order Max Min = Greater
edge_order Max (At y) = Greater
edge_order Max Max = Equal

-- edge by edge
abbrev pub point_order : List Edge → List Edge → Ordering
point_order = slice_cmp edge_order

-- the point of a list of values: the values, filled up with MIN
abbrev pub point_of : List Value → List Edge
point_of values = map At values ++ Min ∷ []

-- two values at one place can be compared
abbrev pub EdgesFit : Edge → Edge → Type 0
EdgesFit (At v) (At w) = AreComparable v w
EdgesFit _ _ = Unit {0}

-- as many edges in both points, and each two of them can be compared
abbrev pub PointsFit : List Edge → List Edge → Type 0
PointsFit = AllZip EdgesFit

-- a value of the point is one of the kind
abbrev pub EdgeOfKind : (Value → Type 0) → Edge → Type 0
EdgeOfKind P (At v) = P v
EdgeOfKind P _ = Unit {0}

-- whether a value is null
abbrev pub is_null : Value → Bool
is_null Null = true
is_null _ = false

-- the values of a row at these positions
abbrev pub picked : List Value → List ℕ → List Value
picked row columns = map (λ i. slice_index_or row i Null) columns

-- ---- the point of a key's first values

abbrev pub fill_edge : Fill → Edge
fill_edge WithMin = Min
fill_edge WithMax = Max

-- the first n values, filled up to w edges
abbrev pub end_of : ℕ → ℕ → Fill → List Value → List Edge
end_of w n fill values = map At (take n values) ++ replicate (w - n) (fill_edge fill)

-- its edge at a place
abbrev pub end_edge : ℕ → Fill → List Value → ℕ → Edge
end_edge n fill values i = if nat_lt i n then At (slice_index_or values i Null) else fill_edge fill
