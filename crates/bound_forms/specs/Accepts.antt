-- Which bound of a level accepts a key (5.11.2 Declarative Partitioning).
use Rattle.std.specs.Prelude.{◌≡◌, ℕ, ◌%◌, ◌==◌, Bool, true, false, not, ◌&&◌, ◌||◌, List, All, length}
use Rattle.std.specs.List.{list_any}
use Rattle.std.specs.Ordering.{is_gt, is_le}
use Rattle.pg_values.specs.declared.value.Value.{Value}
use Rattle.pg_values.specs.Hash.{key_hash}
use Rattle.bound_forms.specs.declared.partition_bound.Bound.{Bound}
use Rattle.bound_forms.specs.declared.partition_bound.Bound.TheVariants.{Range, List as Listed, Hash, Default}
use Rattle.bound_forms.specs.declared.point.Edge.{Edge}
use Rattle.bound_forms.specs.Points.{point_order, point_of, is_null, PointsFit}
use Rattle.bound_forms.specs.Listed.{lists, only, ValuesFit}

-- whether a value of the key is null
abbrev pub has_null : List Value → Bool
has_null key = list_any is_null key

-- from the lower point on, below the upper point
abbrev pub lies_between : List Edge → List Edge → List Edge → Bool
lies_between lower upper p = is_le (point_order lower p) && is_gt (point_order upper p)

-- a bound by itself: a range accepts the keys without null whose point lies between its points, a list those that
-- it lists, null included, a remainder those whose hash has it, and DEFAULT none
abbrev pub accepts : List Value → Bound → Bool
accepts key (Range lower upper) = not (has_null key) && lies_between lower upper (point_of key)
accepts key (Listed values) = lists values (only key)
accepts key (Hash modulus remainder) = key_hash key % modulus == remainder
accepts key Default = false

-- the hash of a key leaves the remainder of the bound
abbrev pub leaves_remainder : ℕ → Bound → Bool
leaves_remainder hash (Hash modulus remainder) = hash % modulus == remainder
leaves_remainder hash _ = false

abbrev pub is_default : Bound → Bool
is_default Default = true
is_default _ = false

-- a bound among those of its level: DEFAULT accepts what no other does
abbrev pub accepts_among : List Bound → List Value → Bound → Bool
accepts_among bounds key b = accepts key b || (is_default b && not (list_any (accepts key) bounds))

-- a key that the bound can be asked of: its values can be compared with those of the bound
abbrev pub FitsBound : List Value → Bound → Type 0
FitsBound key (Range lower upper) = has_null key ≡ false → PointsFit lower (point_of key) × PointsFit upper (point_of key)
FitsBound key (Listed values) = (length key ≡ 1) × All (λ v. ValuesFit v (only key)) values
FitsBound key _ = Unit {0}

-- a key that each bound of a set can be asked of
abbrev pub FitsSet : List Bound → List Value → Type 0
FitsSet bounds key = All (FitsBound key) bounds
