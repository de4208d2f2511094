-- Which event of the catalogue may come after a history (the manual, CREATE TABLE, and ALTER TABLE, ATTACH PARTITION).
use Rattle.std.specs.Prelude.{◌≡◌, ℕ, ◌<◌, true, List, [], ◌∷◌, Some, None, All, length, map, slice_get, slice_index_or}
use Rattle.std.specs.List.{AllZip}
use Rattle.bound_forms.specs.declared.level.KeyColumn.{KeyColumn}
use Rattle.bound_forms.specs.declared.partition_bound.Bound.{Bound}
use Rattle.bound_forms.specs.Levels.{IsOfLevel}
use Rattle.history.specs.declared.catalogue.Column.{Column}
use Rattle.history.specs.declared.catalogue.TableShape.{TableShape}
use Rattle.history.specs.declared.catalogue.TableShape.TheVariants.{Leaf, Level}
use Rattle.history.specs.declared.catalogue.Table.{Table}
use Rattle.history.specs.declared.catalogue.Entry.{Entry}
use Rattle.history.specs.Catalogue.{CatalogueEvent, TableMade, TableDropped, EntryAdded, EntryEnded, EntryMarked, CheckKept, tables_made, entries_added, drops, entry_ends, marks, counted_of}
use Rattle.history.specs.History.{History, CatalogueChange, tx_events, catalogue_events}

-- a table by its number, and what stands past the end
abbrev pub no_table : Table
no_table = record { id = record { number = 0 }; name = []; columns = []; shape = Leaf (record { number = 0 }); by = record { number = 0 }; cmd = 0 }

abbrev pub table_at : List Table → ℕ → Table
table_at tables t = slice_index_or tables t no_table

-- a key column is one of these columns
abbrev pub LiesIn : List Column → KeyColumn → Type 0
LiesIn columns k = slice_get (map (λ c. c.kind) columns) k.position ≡ Some k.kind

abbrev pub KeysLieIn : List Column → TableShape → Type 0
KeysLieIn columns (Leaf leaf) = Unit {0}
KeysLieIn columns (Level level) = All (LiesIn columns) level.columns

-- the bound is such as a check gives for the level
abbrev pub TakesBound : TableShape → Bound → Type 0
TakesBound (Leaf leaf) b = ⊥
TakesBound (Level level) b = IsOfLevel level b

-- the columns of a partition are its parent's, by name, kind and order, each NOT NULL where the parent's is
abbrev pub IsColumnOf : Column → Column → Type 0
IsColumnOf p c = (p.name ≡ c.name) × (p.kind ≡ c.kind) × (p.not_null ≡ true → c.not_null ≡ true)

abbrev pub HasColumnsOf : List Column → List Column → Type 0
HasColumnsOf parent child = AllZip IsColumnOf parent child

-- the entry is of two tables that are made; the parent takes the bound, and the child has its columns
pub record Suits (tables : List Table) (e : Entry) : Type 0 where
  pub parent : e.parent.number < length tables
  pub child : e.child.number < length tables
  pub bound : TakesBound (table_at tables e.parent.number).shape e.bound
  pub columns : HasColumnsOf (table_at tables e.parent.number).columns (table_at tables e.child.number).columns

-- tables and entries have the next numbers; a table is dropped, an entry ended or marked, only while no drop, end or
-- mark of it counts
abbrev pub IsCatalogueSound : CatalogueEvent → History → Type 0
IsCatalogueSound (TableMade t) h = (t.id.number ≡ length (tables_made (catalogue_events h))) × KeysLieIn t.columns t.shape
IsCatalogueSound (TableDropped k s) h = (k < length (tables_made (catalogue_events h))) × (counted_of (tx_events h) (drops (catalogue_events h)) k ≡ None)
IsCatalogueSound (EntryAdded e) h = (e.id.number ≡ length (entries_added (catalogue_events h))) × Suits (tables_made (catalogue_events h)) e
IsCatalogueSound (EntryEnded k s) h = (k < length (entries_added (catalogue_events h))) × (counted_of (tx_events h) (entry_ends (catalogue_events h)) k ≡ None)
IsCatalogueSound (EntryMarked k s) h = (k < length (entries_added (catalogue_events h))) × (counted_of (tx_events h) (marks (catalogue_events h)) k ≡ None)
IsCatalogueSound (CheckKept c) h = (c.table.number < length (tables_made (catalogue_events h))) × IsOfLevel c.kept.level c.kept.bound × All (LiesIn (table_at (tables_made (catalogue_events h)) c.table.number).columns) c.kept.level.columns

abbrev pub AreCatalogueSound : History → Type 0
AreCatalogueSound [] = Unit {0}
AreCatalogueSound (CatalogueChange e ∷ h) = IsCatalogueSound e h × AreCatalogueSound h
AreCatalogueSound (_ ∷ h) = AreCatalogueSound h
