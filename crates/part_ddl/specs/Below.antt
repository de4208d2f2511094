-- The tables below a table, with all pending partitions (the manual, 5.11.2 Declarative Partitioning).
use Rattle.std.specs.Prelude.{◌≡◌, ℕ, Bool, List, [], ◌∷◌, ◌++◌, Option, find, option_map}
use Rattle.pg_values.specs.declared.ids.TableNo.{TableNo}
use Rattle.bound_forms.specs.Accepts.{is_default}
use Rattle.history.specs.declared.catalogue.Entry.{Entry}
use Rattle.history.specs.History.{History}
use Rattle.row_router.specs.Trees.{TableTree, LeafTable, LevelTable, Trees, End, More}
use Rattle.row_router.specs.Histories.{ddl_tree}
use Rattle.tx_table.specs.Kept.{KeptTable}
use Rattle.tx_table.specs.Stands.{TableStands}
use Rattle.part_catalog.specs.Kept.{KeptCatalogue}
use Rattle.part_catalog.specs.Stands.{CatalogueStands}
use Rattle.part_ddl.specs.Placing.{partitions_of}

-- the tables of a tree in plain order, each before those below it
abbrev mutual
  pub tables_in : TableTree → List TableNo
  tables_in (LeafTable node leaf) = node.table ∷ []
  tables_in (LevelTable node level bounds kids) = node.table ∷ all_tables kids

  pub all_tables : Trees → List TableNo
  all_tables End = []
  all_tables (More k ks) = tables_in k ++ all_tables ks

-- those below its topmost one
abbrev pub below_top : TableTree → List TableNo
below_top (LeafTable node leaf) = []
below_top (LevelTable node level bounds kids) = all_tables kids

-- a table and those below it, for a session; and those below it alone
abbrev pub tables_from : History → (session table : ℕ) → List TableNo
tables_from h session table = tables_in (ddl_tree h session table)

abbrev pub tables_under : History → (session table : ℕ) → List TableNo
tables_under h session table = below_top (ddl_tree h session table)

-- the default partition of a table
abbrev pub has_default_bound : Entry → Bool
has_default_bound e = is_default e.bound

abbrev pub default_among : List Entry → Option TableNo
default_among partitions = option_map (λ e. e.child) (find has_default_bound partitions)

abbrev pub default_of : History → (session table : ℕ) → Option TableNo
default_of h session table = default_among (partitions_of h session table)

-- a tree is the one of the table for the session, in each history for which the two stand
abbrev pub IsTreeOf : KeptTable → KeptCatalogue → (session table : ℕ) → TableTree → Type 0
IsTreeOf txs kept session table t = (h : History) → TableStands txs h → CatalogueStands kept h → t ≡ ddl_tree h session table

-- a tree that is the one of some table in some history
pub record IsDdlTree (t : TableTree) : Type 0 where
  pub h : History
  pub session : ℕ
  pub table : ℕ
  pub is : t ≡ ddl_tree h session table
