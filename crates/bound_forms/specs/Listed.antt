-- The values that a LIST bound lists, NULL among them (5.11.2 Declarative Partitioning).
use Rattle.std.specs.Prelude.{◌≡◌, Bool, false, List, [], ◌∷◌, All, if◌then◌else◌}
use Rattle.std.specs.List.{list_any, fold, slice_index_or}
use Rattle.std.specs.Ordering.{is_eq, is_gt}
use Rattle.pg_values.specs.declared.value.Value.{Value}
use Rattle.pg_values.specs.declared.value.Value.TheVariants.{Null}
use Rattle.pg_values.specs.Order.{order, AreComparable}
use Rattle.bound_forms.specs.declared.point.Edge.{Edge}
use Rattle.bound_forms.specs.declared.point.Edge.TheVariants.{At, Max}
use Rattle.bound_forms.specs.Points.{is_null, edge_order}

-- equal values, or both null
abbrev pub is_same : Value → Value → Bool
is_same v w = is_eq (order v w)

-- the value is among those listed
abbrev pub lists : List Value → Value → Bool
lists values v = list_any (λ w. is_same w v) values

-- a value of the first list is among those of the second
abbrev pub share_value : List Value → List Value → Bool
share_value values others = list_any (λ v. lists others v) values

-- NULL stands behind each value
abbrev pub listed_edge : Value → Edge
listed_edge v = if is_null v then Max else At v

-- the lesser of two listed values
abbrev pub lesser_value : Value → Value → Value
lesser_value v w = if is_gt (edge_order (listed_edge v) (listed_edge w)) then w else v

-- the least of the listed values: NULL where nothing else is listed
abbrev pub least : List Value → Value
least [] = Null
least (v ∷ values) = fold lesser_value v values

-- the value of a key of one column
abbrev pub only : List Value → Value
only key = slice_index_or key 0 Null

-- the two can be compared, unless one is null
abbrev pub ValuesFit : Value → Value → Type 0
ValuesFit v w = is_null v ≡ false → is_null w ≡ false → AreComparable v w

-- each value of the first list can be compared with each of the second
abbrev pub ListsFit : List Value → List Value → Type 0
ListsFit values others = All (λ v. All (ValuesFit v) others) values

-- the value is null or one of the kind
abbrev pub ValueOfKind : (Value → Type 0) → Value → Type 0
ValueOfKind P v = is_null v ≡ false → P v
