-- The bounds of one level, such as a check gives for it, and the keys that they can be asked of (CREATE TABLE, PARTITION OF).
use Rattle.std.specs.Prelude.{◌≡◌, ◌≤◌, ◌<◌, true, false, List, [], ◌∷◌, All, length, map, take}
use Rattle.std.specs.List.{AllPairs, AllZip, slice_index_or}
use Rattle.pg_values.specs.declared.value.Kind.{Kind}
use Rattle.pg_values.specs.declared.value.Kind.TheVariants.{Text as KText}
use Rattle.pg_values.specs.declared.value.Value.{Value}
use Rattle.pg_values.specs.declared.value.Value.TheVariants.{Null}
use Rattle.pg_values.specs.Order.{AreComparable}
use Rattle.pg_values.specs.KeyKinds.{IsNotNull}
use Rattle.pg_values.specs.Kinds.{kind_of}
use Rattle.pg_values.specs.declared.strategy.Strategy.{Strategy}
use Rattle.pg_values.specs.declared.strategy.Strategy.TheVariants.{Range as ByRange, List as ByList, Hash as ByHash}
use Rattle.bound_forms.specs.declared.level.KeyColumn.{KeyColumn}
use Rattle.bound_forms.specs.declared.level.Level.{Level}
use Rattle.bound_forms.specs.declared.partition_bound.Bound.{Bound}
use Rattle.bound_forms.specs.declared.partition_bound.TheConstants.{MOST_MODULUS}
use Rattle.bound_forms.specs.declared.partition_bound.Bound.TheVariants.{Range, List as Listed, Hash, Default}
use Rattle.bound_forms.specs.declared.point.Edge.{Edge}
use Rattle.bound_forms.specs.declared.point.Edge.TheVariants.{Min, At, Max}
use Rattle.bound_forms.specs.Points.{is_null, picked}
use Rattle.bound_forms.specs.Listed.{is_same}
use Rattle.bound_forms.specs.Bounds.{is_below, is_filled, BoundOfKind, BoundsFit, CanCompare}
use Rattle.bound_forms.specs.Moduli.{moduli_suit}
use Rattle.bound_forms.specs.Accepts.{FitsBound, FitsSet}

-- a value of the kind, or null
abbrev pub IsOf : Kind → Value → Type 0
IsOf kind v = is_null v ≡ false → kind_of v ≡ kind

-- MINVALUE, MAXVALUE or a value of the kind
abbrev pub IsEdgeOf : Kind → Edge → Type 0
IsEdgeOf kind Min = Unit {0}
IsEdgeOf kind (At v) = (is_null v ≡ false) × (kind_of v ≡ kind)
IsEdgeOf kind Max = Unit {0}

-- an edge for each key column, filled up with MIN
abbrev pub HasEdges : List KeyColumn → List Edge → Type 0
HasEdges [] p = p ≡ Min ∷ []
HasEdges (c ∷ columns) [] = ⊥
HasEdges (c ∷ columns) (e ∷ p) = IsEdgeOf c.kind e × HasEdges columns p

-- behind MINVALUE stands MINVALUE alone, and behind MAXVALUE MAXVALUE
abbrev pub Repeats : Edge → Edge → Type 0
Repeats Min later = later ≡ Min
Repeats (At v) later = Unit {0}
Repeats Max later = later ≡ Max

-- a point as FROM or TO gives it
pub record IsPointOf (columns : List KeyColumn) (p : List Edge) : Type 0 where
  pub edges : HasEdges columns p
  pub words : AllPairs Repeats (take (length columns) p)

-- the kind of the one key column of a list
abbrev pub only_kind : List KeyColumn → Kind
only_kind [] = KText
only_kind (c ∷ columns) = c.kind

-- values of the one key column's kind, each once
pub record AreOf (columns : List KeyColumn) (values : List Value) : Type 0 where
  pub one : length columns ≡ 1
  pub kind : All (IsOf (only_kind columns)) values
  pub once : AllPairs (λ v w. is_same v w ≡ false) values

-- a bound of the level, not empty
abbrev pub IsBoundAt : Strategy → List KeyColumn → Bound → Type 0
IsBoundAt ByRange columns (Range l u) = IsPointOf columns l × IsPointOf columns u × (is_below l u ≡ true)
IsBoundAt ByRange columns (Listed values) = ⊥
IsBoundAt ByRange columns (Hash modulus remainder) = ⊥
IsBoundAt ByRange columns Default = Unit {0}
IsBoundAt ByList columns (Range l u) = ⊥
IsBoundAt ByList columns (Listed values) = AreOf columns values × (is_filled (Listed values) ≡ true)
IsBoundAt ByList columns (Hash modulus remainder) = ⊥
IsBoundAt ByList columns Default = Unit {0}
IsBoundAt ByHash columns (Range l u) = ⊥
IsBoundAt ByHash columns (Listed values) = ⊥
IsBoundAt ByHash columns (Hash modulus remainder) = (remainder < modulus) × (modulus ≤ MOST_MODULUS)
IsBoundAt ByHash columns Default = ⊥

-- a bound such as a check gives for the level
abbrev pub IsOfLevel : Level → Bound → Type 0
IsOfLevel level b = IsBoundAt level.strategy level.columns b

-- null, or comparable with the values of the kind
abbrev pub ComparesWith : Kind → Value → Type 0
ComparesWith kind v = (w : Value) → is_null v ≡ false → is_null w ≡ false → kind_of w ≡ kind → AreComparable w v

-- a key of the level: for each key column a value that is null or comparable with the column's
abbrev pub IsKeyOfLevel : Level → List Value → Type 0
IsKeyOfLevel level key = AllZip (λ c v. ComparesWith c.kind v) level.columns key

-- ---- laws

-- two bounds of one level can stand side by side, unless a modulus does not suit the other
abbrev pub LevelBoundsFit : Type 0
LevelBoundsFit = (level : Level) (a b : Bound) → IsOfLevel level a → IsOfLevel level b → moduli_suit a b ≡ true → BoundsFit a b

-- and their values can be compared, whatever the moduli
abbrev pub LevelBoundsCompare : Type 0
LevelBoundsCompare = (level : Level) (a b : Bound) → IsOfLevel level a → IsOfLevel level b → CanCompare a b

-- its values are none of them null in a range, and can be compared with one another in a list
abbrev pub LevelBoundsHaveAKind : Type 0
LevelBoundsHaveAKind = (level : Level) (b : Bound) → IsOfLevel level b → BoundOfKind IsNotNull b

-- it is not empty
abbrev pub LevelBoundsAreFilled : Type 0
LevelBoundsAreFilled = (level : Level) (b : Bound) → IsOfLevel level b → is_filled b ≡ true

-- each bound of a level can be asked of each key of the level
abbrev pub LevelKeysFit : Type 0
LevelKeysFit = (level : Level) (b : Bound) (key : List Value) → IsOfLevel level b → IsKeyOfLevel level key → FitsBound key b

-- and so can all bounds of a set
abbrev pub LevelKeysFitSets : Type 0
LevelKeysFitSets = (level : Level) (bounds : List Bound) (key : List Value) → All (IsOfLevel level) bounds → IsKeyOfLevel level key → FitsSet bounds key

-- a row whose values at the places of the key columns are of their kinds, or null, gives a key of the level
abbrev pub RowsGiveKeys : Type 0
RowsGiveKeys = (level : Level) (row : List Value) → All (λ c. IsOf c.kind (slice_index_or row c.position Null)) level.columns → IsKeyOfLevel level (picked row (map (λ c. c.position) level.columns))
