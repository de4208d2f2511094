-- What the key of a row may be asked.
use Rattle.std.specs.Prelude.{◌≡◌, ◌<◌, true, false, List, All, length}
use Rattle.std.specs.List.{list_any}
use Rattle.pg_values.specs.declared.value.Value.{Value}
use Rattle.pg_values.specs.KeyKinds.{IsNotNull}
use Rattle.bound_forms.specs.declared.level.Level.{Level}
use Rattle.bound_forms.specs.declared.partition_bound.Bound.{Bound}
use Rattle.bound_forms.specs.Accepts.{is_default, FitsBound, FitsSet}
use Rattle.bound_forms.specs.Bounds.{BoundOfKind}
use Rattle.row_router.specs.Trees.{key_of}

-- the key columns of the level lie in the row, and the key can be compared with the bound
pub record KeyFits (level : Level) (b : Bound) (row : List Value) : Type 0 where
  pub columns : All (λ c. c.position < length row) level.columns
  pub bound : FitsBound (key_of level row) b
  pub kind : BoundOfKind IsNotNull b

-- or with each bound of the level's partitions, none of which is DEFAULT where the new one is
pub record SiblingsFit (level : Level) (bounds : List Bound) (b : Bound) (row : List Value) : Type 0 where
  pub set : FitsSet bounds (key_of level row)
  pub apart : is_default b ≡ true → list_any is_default bounds ≡ false
