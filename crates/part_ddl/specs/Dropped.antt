-- What DROP TABLE makes of a history (the manual, DROP TABLE; 5.11.2 Declarative Partitioning).
use Rattle.std.specs.Prelude.{◌≡◌, ◌≢◌, ◌<◌, ℕ, List, [], ◌∷◌, ◌++◌, Option, Some, None, All, filter}
use Rattle.std.specs.List.{AllPairs}
use Rattle.pg_values.specs.declared.ids.TableNo.{TableNo}
use Rattle.history.specs.declared.transaction.TxId.{TxId}
use Rattle.history.specs.declared.catalogue.Entry.{Entry}
use Rattle.history.specs.declared.catalogue.Stamp.{Stamp}
use Rattle.history.specs.Transactions.{session_of}
use Rattle.history.specs.Catalogue.{TableDropped, EntryEnded, drops, entry_ends, counted_of}
use Rattle.history.specs.History.{History, CatalogueChange, tx_events, catalogue_events}
use Rattle.history.specs.Presence.{entries_present}
use Rattle.row_router.specs.Histories.{above, is_over}
use Rattle.row_router.specs.Siblings.{AreSiblings}
use Rattle.tx_table.specs.Kept.{KeptTable}
use Rattle.tx_table.specs.Stands.{TableStands}
use Rattle.part_catalog.specs.Kept.{KeptCatalogue}
use Rattle.part_catalog.specs.Stands.{CatalogueStands}
use Rattle.part_catalog.specs.Found.{table_number}
use Rattle.part_ddl.specs.Below.{tables_from}

-- ---- the ends of entries

abbrev pub ended : Stamp → Option Entry → History
ended s None = []
ended s (Some e) = CatalogueChange (EntryEnded e.id.number s) ∷ []

-- the entry by which a table is a partition for the session is ended, if there is one
abbrev pub place_ended : (session : ℕ) → Stamp → History → TableNo → History
place_ended session s h t = ended s (above (entries_present h session) t.number)

-- table after table, each after those before it
abbrev pub places_ended : (session : ℕ) → Stamp → History → List TableNo → History
places_ended session s h [] = []
places_ended session s h (t ∷ ts) = let first = place_ended session s h t in places_ended session s (first ++ h) ts ++ first

-- ---- the drops of tables

abbrev pub tables_dropped : Stamp → List TableNo → History
tables_dropped s [] = []
tables_dropped s (t ∷ ts) = tables_dropped s ts ++ CatalogueChange (TableDropped t.number s) ∷ []

-- ---- both: all ends come before the drops

abbrev pub gone : (session : ℕ) → Stamp → History → List TableNo → History
gone session s h tables = tables_dropped s tables ++ places_ended session s h tables

-- a table goes with those below it
abbrev pub drop_events : History → (session table : ℕ) → Stamp → History
drop_events h session table s = gone session s h (tables_from h session table)

-- ---- what may be dropped

-- no drop of the table counts, whoever made it
abbrev pub IsNotDropped : History → TableNo → Type 0
IsNotDropped h t = counted_of (tx_events h) (drops (catalogue_events h)) t.number ≡ None

-- and no end of an entry
abbrev pub IsNotEnded : History → Entry → Type 0
IsNotEnded h e = counted_of (tx_events h) (entry_ends (catalogue_events h)) e.id.number ≡ None

-- of those that make the table a partition for the session
abbrev pub KeepsPlaces : History → (session : ℕ) → TableNo → Type 0
KeepsPlaces h session t = All (IsNotEnded h) (filter (is_over t.number) (entries_present h session))

abbrev pub AreTwo : TableNo → TableNo → Type 0
AreTwo t u = t.number ≢ u.number

-- the stores stand for a history in which no end of such an entry counts
pub record MayEnd (table : KeptTable) (kept : KeptCatalogue) (by : TxId) (t : TableNo) : Type 0 where
  pub h : History
  pub txs : TableStands table h
  pub catalogue : CatalogueStands kept h
  pub places : KeepsPlaces h (session_of (tx_events h) by.number) t

-- so it is of each of the tables
pub record MayEndAll (table : KeptTable) (kept : KeptCatalogue) (by : TxId) (ts : List TableNo) : Type 0 where
  pub h : History
  pub txs : TableStands table h
  pub catalogue : CatalogueStands kept h
  pub places : All (KeepsPlaces h (session_of (tx_events h) by.number)) ts

-- the stores stand for a history in which these tables are made, no two of them are one, and no drop of one counts
pub record MayDropAll (table : KeptTable) (kept : KeptCatalogue) (ts : List TableNo) : Type 0 where
  pub h : History
  pub txs : TableStands table h
  pub catalogue : CatalogueStands kept h
  pub made : All (λ t. t.number < table_number h) ts
  pub once : AllPairs AreTwo ts
  pub there : All (IsNotDropped h) ts

-- the stores stand for a history in which each table of the tree stands there once, and no other transaction dropped one or
-- ended an entry above one; the entries that are present for the session are siblings
pub record MayDrop (table : KeptTable) (kept : KeptCatalogue) (t : ℕ) (by : TxId) : Type 0 where
  pub h : History
  pub txs : TableStands table h
  pub catalogue : CatalogueStands kept h
  pub siblings : AreSiblings (entries_present h (session_of (tx_events h) by.number))
  pub once : AllPairs AreTwo (tables_from h (session_of (tx_events h) by.number) t)
  pub there : All (IsNotDropped h) (tables_from h (session_of (tx_events h) by.number) t)
  pub places : All (KeepsPlaces h (session_of (tx_events h) by.number)) (tables_from h (session_of (tx_events h) by.number) t)
