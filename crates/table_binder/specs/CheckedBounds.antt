-- What holds of every check of a bound.
use Rattle.std.specs.Prelude.{◌≡◌, ◌↔◌, Ok}
use Rattle.bound_forms.specs.declared.level.Level.{Level}
use Rattle.bound_forms.specs.declared.partition_bound.Bound.{Bound}
use Rattle.table_binder.specs.declared.raw_bound.RawBound.{RawBound}
use Rattle.table_binder.specs.Checks.{checked}
use Rattle.bound_forms.specs.Levels.{IsOfLevel}

-- bounds of a level are those that a check gives for it
abbrev pub LevelBoundsAreChecked : Type 0
LevelBoundsAreChecked = (level : Level) (b : Bound) → IsOfLevel level b ↔ ((raw : RawBound) × (checked level.strategy level.columns raw ≡ Ok b))
