-- The table above a table, the default partition below one, and the tables under it.
use Rattle.std.specs.Prelude.{ℕ, Option, List, [], Some, None, map}
use Rattle.pg_values.specs.declared.ids.TableNo.{TableNo}
use Rattle.history.specs.History.{History}
use Rattle.history.specs.Presence.{entries_present}
use Rattle.row_router.specs.Histories.{above}
use Rattle.part_catalog.specs.Answers.{parent_told}
use Rattle.part_ddl.specs.Below.{tables_from}

abbrev pub parent_in : History → (session table : ℕ) → Option TableNo
parent_in h s t = parent_told (above (entries_present h s) t)

-- the default partition of a table, if there is one, and the tables under it
abbrev pub family_of : History → (session : ℕ) → Option TableNo → List TableNo
family_of h s None = []
family_of h s (Some t) = tables_from h s t.number

abbrev pub numbers_under : History → (session : ℕ) → Option TableNo → List ℕ
numbers_under h s None = []
numbers_under h s (Some t) = map (λ x. x.number) (tables_from h s t.number)
