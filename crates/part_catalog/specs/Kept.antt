-- What the catalogue keeps.
use Rattle.std.specs.Prelude.{◌≡◌, ℕ, suc, ◌+◌, ◌<◌, ◌≤◌, ◌++◌, ◌∷◌, List, [], Some, None, map, length, slice_index_or, slice_set}
use Rattle.pg_values.specs.declared.ids.TableNo.{TableNo}
use Rattle.bound_forms.specs.declared.partition_bound.Bound.{Bound}
use Rattle.bound_forms.specs.declared.partition_bound.Bound.TheVariants.{Range}
use Rattle.history.specs.declared.transaction.TxId.{TxId}
use Rattle.history.specs.declared.catalogue.Table.{Table}
use Rattle.history.specs.declared.catalogue.Entry.{Entry}
use Rattle.history.specs.declared.catalogue.Check.{Check}
use Rattle.history.specs.declared.catalogue.Stamp.{Stamp}
use Rattle.history.specs.Places.{no_table}
use Rattle.row_router.specs.Histories.{children}
use Rattle.part_catalog.specs.declared.stored.StoredTable.{StoredTable}
use Rattle.part_catalog.specs.declared.stored.StoredEntry.{StoredEntry}
use Rattle.part_catalog.specs.declared.names.Names.{Names}
use Rattle.part_catalog.specs.Names.{NamesStand}

-- all tables by their numbers, the entries that are not forgotten in the order in which they were added, how many were
-- added, and all CHECKs in the order in which they were kept
pub record KeptCatalogue : Type 0 where
  pub tables : List StoredTable
  pub entries : List StoredEntry
  pub added : ℕ
  pub checks : List Check

abbrev pub table_in : StoredTable → Table
table_in x = x.table

abbrev pub entry_in : StoredEntry → Entry
entry_in x = x.entry

-- what stands past the end
abbrev pub no_entry : StoredEntry
no_entry = record {
  entry = record { id = record { number = 0 }; parent = record { number = 0 }; child = record { number = 0 }; bound = Range [] []; by = record { number = 0 }; cmd = 0 };
  ended = None;
  marked = None;
}

-- the entry at a place
abbrev pub stored_at : List StoredEntry → ℕ → StoredEntry
stored_at entries k = slice_index_or entries k no_entry

-- an entry that has its place for its number
abbrev pub with_place : ℕ → Entry → Entry
with_place k e = record { id = record { number = k }; parent = e.parent; child = e.child; bound = e.bound; by = e.by; cmd = e.cmd }

abbrev pub placed_from : ℕ → List StoredEntry → List Entry
placed_from k [] = []
placed_from k (x ∷ xs) = with_place k x.entry ∷ placed_from (suc k) xs

abbrev pub by_place : List StoredEntry → List Entry
by_place entries = placed_from 0 entries

abbrev pub no_stored : StoredTable
no_stored = record { table = no_table; dropped = None }

abbrev pub name_in : StoredTable → List ℕ
name_in x = x.table.name

abbrev pub number_of : Entry → ℕ
number_of e = e.id.number

-- the tables of the entry are made
pub record IsBetween (tables : List StoredTable) (x : StoredEntry) : Type 0 where
  pub parent : x.entry.parent.number < length tables
  pub child : x.entry.child.number < length tables

-- what is always so of a catalogue: below each table stand the places of its entries, in plain order
pub record AreListed (tables : List StoredTable) (entries : List StoredEntry) (numbers : List (List ℕ)) : Type 0 where
  pub between : (k : ℕ) → k < length entries → IsBetween tables (slice_index_or entries k no_entry)
  pub count : length numbers ≡ length tables
  pub below : (t : ℕ) → t < length tables → slice_index_or numbers t [] ≡ map number_of (children (by_place entries) t)

-- and there are not too many tables, which are found by their names
pub record IsKept (tables : List StoredTable) (entries : List StoredEntry) (numbers : List (List ℕ)) (names : Names) : Type 0 where
  pub listed : AreListed tables entries numbers
  pub few : length tables ≤ 4096
  pub named : NamesStand names (map name_in tables)

-- ---- what is kept after a table was made, an entry added, a CHECK kept, a table dropped, an entry ended or marked

abbrev pub with_table : KeptCatalogue → Table → KeptCatalogue
with_table kept t = record { tables = kept.tables ++ (record { table = t; dropped = None }) ∷ []; entries = kept.entries; added = kept.added; checks = kept.checks }

abbrev pub fresh : Entry → StoredEntry
fresh e = record { entry = e; ended = None; marked = None }

abbrev pub with_entry : KeptCatalogue → Entry → KeptCatalogue
with_entry kept e = record { tables = kept.tables; entries = kept.entries ++ fresh e ∷ []; added = kept.added + 1; checks = kept.checks }

-- the entry that is added next
abbrev pub next_entry : KeptCatalogue → (parent child : TableNo) → Bound → TxId → (cmd : ℕ) → Entry
next_entry kept parent child bound by cmd = record { id = record { number = kept.added }; parent = parent; child = child; bound = bound; by = by; cmd = cmd }

abbrev pub with_check : KeptCatalogue → Check → KeptCatalogue
with_check kept c = record { tables = kept.tables; entries = kept.entries; added = kept.added; checks = kept.checks ++ c ∷ [] }

abbrev pub with_drop : KeptCatalogue → ℕ → Stamp → KeptCatalogue
with_drop kept k s = record { tables = slice_set kept.tables k (record { table = (slice_index_or kept.tables k no_stored).table; dropped = Some s }); entries = kept.entries; added = kept.added; checks = kept.checks }

abbrev pub with_end : KeptCatalogue → ℕ → Stamp → KeptCatalogue
with_end kept k s =
    let x = slice_index_or kept.entries k no_entry in
    record { tables = kept.tables; entries = slice_set kept.entries k (record { entry = x.entry; ended = Some s; marked = x.marked }); added = kept.added; checks = kept.checks }

abbrev pub with_mark : KeptCatalogue → ℕ → Stamp → KeptCatalogue
with_mark kept k s =
    let x = slice_index_or kept.entries k no_entry in
    record { tables = kept.tables; entries = slice_set kept.entries k (record { entry = x.entry; ended = x.ended; marked = Some s }); added = kept.added; checks = kept.checks }
