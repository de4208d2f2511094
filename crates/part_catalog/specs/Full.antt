-- Why the catalogue does not take a table or an entry.
use Rattle.std.specs.Prelude.{◌≡◌, ℕ, zero, suc, ◌+◌, ◌<◌, ◌≤◌, ◌⊎◌, Option, Some, None, length}
use Rattle.pg_values.specs.declared.which.Which.TheVariants.{Tables, Partitions, Levels}
use Rattle.history.specs.declared.catalogue.Entry.{Entry}
use Rattle.history.specs.Transactions.{session_of}
use Rattle.history.specs.History.{History, tx_events, catalogue_events}
use Rattle.history.specs.Catalogue.{tables_made, entries_added}
use Rattle.history.specs.Presence.{entries_present}
use Rattle.history.specs.Places.{Suits}
use Rattle.tx_table.specs.Kept.{KeptTable}
use Rattle.tx_table.specs.Stands.{TableStands}
use Rattle.row_router.specs.Trees.{height}
use Rattle.row_router.specs.Histories.{children, ddl_tree, above, parent_in}
use Rattle.row_router.specs.Siblings.{AreSiblings}
use Rattle.part_catalog.specs.declared.TheConstants.{ENTRY_LIMIT}
use Rattle.part_catalog.specs.declared.new_table.CatalogRefused.{CatalogRefused}
use Rattle.part_catalog.specs.declared.new_table.CatalogRefused.TheVariants.{Full, NoMemory}
use Rattle.part_catalog.specs.Kept.{KeptCatalogue}
use Rattle.part_catalog.specs.Stands.{CatalogueStands}

-- there are 4,096 tables already; where there are fewer, memory ran out
abbrev pub TableRefused : ℕ → CatalogRefused → Type 0
TableRefused count (Full which) = (which ≡ Tables) × (4096 ≤ count)
TableRefused count NoMemory = count < 4096

-- how many partitions a table has for the session
abbrev pub partitions : History → (session table : ℕ) → ℕ
partitions h session table = length (children (entries_present h session) table)

-- how many tables stand on the path from a table upwards, up to eight
abbrev pub tables_up : ℕ → (ℕ → Option Entry) → Option ℕ → ℕ
tables_up n up None = 0
tables_up zero up (Some t) = 0
tables_up (suc n) up (Some t) = tables_up n up (parent_in (up t)) + 1

unfoldable pub tables_above : (ℕ → Option Entry) → ℕ → ℕ
tables_above up t = tables_up 8 up (Some t)

-- how many tables stand on the longest path, once a table is a partition of another
abbrev pub levels : History → (session parent child : ℕ) → ℕ
levels h session parent child = tables_above (above (entries_present h session)) parent + height (ddl_tree h session child)

-- how many entries were added in the run, those that are gone too; each has a number of 64 bits
abbrev pub added : History → ℕ
added h = length (entries_added (catalogue_events h))

pub record HasPlace (h : History) (session parent child : ℕ) : Type 0 where
  pub partitions : partitions h session parent < 1024
  pub added : added h < ENTRY_LIMIT
  pub levels : levels h session parent child ≤ 8

abbrev pub EntryRefused : History → (session parent child : ℕ) → CatalogRefused → Type 0
EntryRefused h session parent child (Full which) = ((which ≡ Partitions) × ((1024 ≤ partitions h session parent) ⊎ (ENTRY_LIMIT ≤ added h))) ⊎ ((which ≡ Levels) × (partitions h session parent < 1024) × (8 < levels h session parent child))
EntryRefused h session parent child NoMemory = Unit {0}

-- the two stand for a history in which the entry suits its tables, and the entries that are present for the session of its
-- transaction are siblings
pub record MayAdd (table : KeptTable) (kept : KeptCatalogue) (e : Entry) : Type 0 where
  pub h : History
  pub txs : TableStands table h
  pub catalogue : CatalogueStands kept h
  pub suits : Suits (tables_made (catalogue_events h)) e
  pub siblings : AreSiblings (entries_present h (session_of (tx_events h) e.by.number))
