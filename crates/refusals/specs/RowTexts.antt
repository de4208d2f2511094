-- How a row or a key is told in a refusal.
use Rattle.std.specs.Prelude.{ℕ, List, ◌++◌, codes}
use Rattle.std.specs.List.{join_by}
use Rattle.pg_values.specs.declared.value.Value.{Value}
use Rattle.pg_values.specs.declared.value.Value.TheVariants.{Null}
use Rattle.pg_values.specs.Spelling.{spelled}

-- null by that word, and others as a table prints them
abbrev pub value_text : Value → List ℕ
value_text Null = codes "null"
value_text v = spelled v

-- the values in parentheses, joined by `, `
abbrev pub row_text : List Value → List ℕ
row_text values = codes "(" ++ (join_by value_text (codes ", ") values ++ codes ")")
