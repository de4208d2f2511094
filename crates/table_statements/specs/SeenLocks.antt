-- What contracts see of tables.
use Rattle.std.specs.Prelude.{ℕ, List, [], ◌∷◌, Option, Some, None, Vec, map}
use Rattle.pg_values.specs.declared.ids.TableNo.{TableNo}

abbrev pub one_or_none : Option TableNo → List ℕ
one_or_none None = []
one_or_none (Some t) = t.number ∷ []

abbrev pub numbers : {A : Type 0} → Vec TableNo A → List ℕ
numbers tables = map (λ t. t.number) tables.items
