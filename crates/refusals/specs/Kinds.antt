-- What the kinds are called in a refusal (8. Data Types).
use Rattle.std.specs.Prelude.{ℕ, List, codes}
use Rattle.pg_values.specs.declared.value.Kind.{Kind}
use Rattle.pg_values.specs.declared.value.Kind.TheVariants.{Int4, Int8, Text, Day, Truth}

abbrev pub kind_word : Kind → List ℕ
kind_word Int4 = codes "integer"
kind_word Int8 = codes "bigint"
kind_word Text = codes "text"
kind_word Day = codes "date"
kind_word Truth = codes "boolean"
