-- The row that the values for some columns make (the manual, INSERT).
use Rattle.std.specs.Prelude.{ℕ, ◌==◌, if◌then◌else◌, List, [], ◌∷◌, map}
use Rattle.std.specs.List.{range_with_len}
use Rattle.pg_values.specs.declared.value.Value.{Value}
use Rattle.pg_values.specs.declared.value.Value.TheVariants.{Null}

-- the value given for a column, among those for the named ones; null where it is not named
abbrev pub value_for : (named : List ℕ) → List Value → ℕ → Value
value_for [] vs column = Null
value_for (n ∷ ns) [] column = Null
value_for (n ∷ ns) (v ∷ vs) column = if n == column then v else value_for ns vs column

-- a value for each of so many columns
abbrev pub full_row : ℕ → (named : List ℕ) → List Value → List Value
full_row width named values = map (value_for named values) (range_with_len 0 width)
