-- A table that is made as a partition (the manual, CREATE TABLE, PARTITION OF).
use Rattle.std.specs.Prelude.{◌≡◌, ◌<◌, ◌≤◌, ℕ, List, [], ◌∷◌, Option, length}
use Rattle.bound_forms.specs.declared.level.Level.{Level}
use Rattle.bound_forms.specs.declared.partition_bound.Bound.{Bound}
use Rattle.history.specs.declared.transaction.TxId.{TxId}
use Rattle.history.specs.declared.catalogue.Entry.{Entry}
use Rattle.history.specs.Transactions.{session_of}
use Rattle.history.specs.Catalogue.{EntryAdded, entries_added}
use Rattle.history.specs.History.{History, CatalogueChange, tx_events, catalogue_events}
use Rattle.history.specs.Places.{TakesBound}
use Rattle.history.specs.Presence.{entries_present}
use Rattle.row_router.specs.Histories.{table_of}
use Rattle.row_router.specs.Siblings.{AreSiblings}
use Rattle.tx_table.specs.Kept.{KeptTable}
use Rattle.tx_table.specs.Stands.{TableStands}
use Rattle.row_store.specs.Kept.{KeptRows}
use Rattle.row_store.specs.Stands.{StoreStands}
use Rattle.part_catalog.specs.Kept.{KeptCatalogue}
use Rattle.part_catalog.specs.Stands.{CatalogueStands}
use Rattle.part_catalog.specs.Found.{made_at, table_number}
use Rattle.part_ddl.specs.Made.{Made, made_by}
use Rattle.part_ddl.specs.Tables.{KeysFit, count_faults, next_table, table_events}
use Rattle.part_ddl.specs.Placing.{place_faults}

-- the entry of the next table below the parent
abbrev pub new_entry : History → (parent : ℕ) → Bound → TxId → (cmd : ℕ) → Entry
new_entry h parent b by cmd = record { id = record { number = length (entries_added (catalogue_events h)) }; parent = table_of parent; child = next_table h; bound = b; by = by; cmd = cmd }

-- the table has its parent's columns, and is made before it gets its place
abbrev pub partition_events : History → (name : List ℕ) → (parent : ℕ) → Bound → Option Level → TxId → (cmd : ℕ) → History
partition_events h name parent b level by cmd = CatalogueChange (EntryAdded (new_entry h parent b by cmd)) ∷ table_events h name (made_at h parent).columns level by cmd

abbrev pub made_partition : History → (name : List ℕ) → (parent : ℕ) → Bound → Option Level → TxId → (cmd : ℕ) → Made
made_partition h name parent b level by cmd = made_by (count_faults h) (next_table h) (partition_events h name parent b level by cmd)

-- the stores stand for a history in which the parent takes the bound, nothing stands against a further partition of one
-- table with this bound, key columns lie among the parent's columns, and the entries that are present for the session of
-- the transaction are siblings; and there are no more leaves than tables
pub record MayMake (table : KeptTable) (kept : KeptCatalogue) (store : KeptRows) (parent : ℕ) (b : Bound) (level : Option Level) (by : TxId) : Type 0 where
  pub h : History
  pub txs : TableStands table h
  pub catalogue : CatalogueStands kept h
  pub rows : StoreStands store h
  pub known : parent < table_number h
  pub takes : TakesBound (made_at h parent).shape b
  pub keys : KeysFit (made_at h parent).columns level
  pub siblings : AreSiblings (entries_present h (session_of (tx_events h) by.number))
  pub place : place_faults h (session_of (tx_events h) by.number) parent b 1 ≡ []
  pub leaves : store.leaves ≤ length kept.tables
