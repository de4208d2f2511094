-- CHECKs that tables keep: which are equal, and what one says of rows (the manual, ALTER TABLE, DETACH PARTITION).
use Rattle.std.specs.Prelude.{◌==◌, ◌&&◌, Bool, true, false, List, [], ◌∷◌}
use Rattle.pg_values.specs.declared.value.Kind.{Kind}
use Rattle.pg_values.specs.declared.value.Kind.TheVariants as kinds
use Rattle.pg_values.specs.declared.strategy.Strategy.{Strategy}
use Rattle.bound_forms.specs.declared.level.KeyColumn.{KeyColumn}
use Rattle.bound_forms.specs.declared.level.Level.{Level}
use Rattle.bound_forms.specs.declared.partition_bound.Bound.{Bound}
use Rattle.bound_forms.specs.Within.{within}
use Rattle.pg_values.specs.declared.strategy.Strategy.TheVariants as strategies
use Rattle.history.specs.declared.catalogue.KeptCheck.{KeptCheck}

-- ---- equal CHECKs

abbrev pub same_strategy : Strategy → Strategy → Bool
same_strategy strategies.Range strategies.Range = true
same_strategy strategies.List strategies.List = true
same_strategy strategies.Hash strategies.Hash = true
same_strategy a b = false

abbrev pub same_kind : Kind → Kind → Bool
same_kind kinds.Int4 kinds.Int4 = true
same_kind kinds.Int8 kinds.Int8 = true
same_kind kinds.Text kinds.Text = true
same_kind kinds.Day kinds.Day = true
same_kind kinds.Truth kinds.Truth = true
same_kind a b = false

abbrev pub same_column : KeyColumn → KeyColumn → Bool
same_column a b = (a.position == b.position) && same_kind a.kind b.kind

abbrev pub same_columns : List KeyColumn → List KeyColumn → Bool
same_columns [] [] = true
same_columns [] (y ∷ ys) = false
same_columns (x ∷ xs) [] = false
same_columns (x ∷ xs) (y ∷ ys) = same_column x y && same_columns xs ys

abbrev pub same_level : Level → Level → Bool
same_level a b = same_strategy a.strategy b.strategy && same_columns a.columns b.columns

-- each lies within the other
abbrev pub same_bound : Bound → Bound → Bool
same_bound a b = within a b && within b a

abbrev pub same_check : KeptCheck → KeptCheck → Bool
same_check a b = same_level a.level b.level && same_bound a.bound b.bound

-- ---- a CHECK that says of rows all that a place asks: it is of the same level, and its bound lies inside the one there

abbrev pub implies : Level → Bound → KeptCheck → Bool
implies level b k = same_level level k.level && within k.bound b
