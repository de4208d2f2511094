-- The tables under a table (the manual, 5.11.2 Declarative Partitioning).
use Rattle.std.specs.Prelude.{ℕ, List, []}
use Rattle.pg_values.specs.declared.ids.TableNo.{TableNo}
use Rattle.row_router.specs.Trees.{TableTree, LeafTable, LevelTable}
use Rattle.legal_statements.specs.Below.{all_tables}

-- in plain order, each before those below it
abbrev pub below : TableTree → List TableNo
below (LeafTable node leaf) = []
below (LevelTable node level bounds kids) = all_tables kids

abbrev pub number_of : TableNo → ℕ
number_of t = t.number
