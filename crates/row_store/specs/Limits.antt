-- How much a store takes.
use Rattle.std.specs.Prelude.{ℕ, ◌+◌, List, [], ◌∷◌, length}
use Rattle.pg_values.specs.declared.value.Value.{Value}
use Rattle.pg_values.specs.declared.value.Value.TheVariants.{Null, Int4, Int8, Text, Day, Truth}
use Rattle.history.specs.declared.version.Version.{Version}

-- a value counts 16 bytes, and a text its length besides
abbrev pub value_bytes : Value → ℕ
value_bytes Null = 16
value_bytes (Int4 n) = 16
value_bytes (Int8 n) = 16
value_bytes (Text t) = 16 + length t
value_bytes (Day d) = 16
value_bytes (Truth b) = 16

abbrev pub row_bytes : List Value → ℕ
row_bytes [] = 0
row_bytes (v ∷ vs) = value_bytes v + row_bytes vs

abbrev pub versions_bytes : List Version → ℕ
versions_bytes [] = 0
versions_bytes (v ∷ vs) = row_bytes v.row + versions_bytes vs
