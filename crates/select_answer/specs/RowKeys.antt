-- Where the values lie that a row is sorted by.
use Rattle.std.specs.Prelude.{List, [], ◌∷◌}
use Rattle.pg_values.specs.declared.value.Value.{Value}
use Rattle.select_answer.specs.declared.row_keys.KeptKeys.{KeptKeys}
use Rattle.select_answer.specs.declared.row_keys.KeptKeys.TheVariants.{One, Several}

abbrev pub kept_keys : KeptKeys → List Value
kept_keys (One value) = value ∷ []
kept_keys (Several values) = values
