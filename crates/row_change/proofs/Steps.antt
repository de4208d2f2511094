-- Steps of loops.
use Rattle.std.proofs.Common.{◌≡◌, ℕ, ◌+◌, List, [], ◌∷◌, ◌++◌, length, refl, arith}
use Rattle.std.proofs.lemmas.List.FromFn.{map-range_with_len_more}
use Rattle.pg_values.specs.declared.value.Value.{Value}
use Rattle.pg_values.specs.declared.value.Value.TheVariants.{Null}
use Rattle.row_change.specs.FullRows.{value_for, full_row}

-- a row of one column more
pub full_row_more : (width : ℕ) (named : List ℕ) (values : List Value) → full_row (width + 1) named values ≡ full_row width named values ++ value_for named values width ∷ []
full_row_more width named values = map-range_with_len_more (value_for named values) 0 width width (omega arith)

-- no value is left for a column
pub nothing_given : (named : List ℕ) (values : List Value) (column : ℕ) → length values ≡ 0 → value_for named values column ≡ Null
nothing_given [] values column none = refl
nothing_given (n ∷ ns) [] column none = refl
nothing_given (n ∷ ns) (v ∷ values) column none = absurd (omega (arith, none))
