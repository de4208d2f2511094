-- What holds of every tree of tables.
use Rattle.std.specs.Prelude.{◌≡◌, ℕ, ◌+◌, ◌<◌, Bool, true, false, List, length, slice_index_or}
use Rattle.pg_values.specs.declared.value.Value.{Value}
use Rattle.bound_forms.specs.declared.partition_bound.Bound.{Bound}
use Rattle.bound_forms.specs.Bounds.{IsInPlainOrder}
use Rattle.bound_forms.specs.Accepts.{is_default}
use Rattle.history.specs.declared.catalogue.Column.{Column}
use Rattle.history.specs.declared.catalogue.Entry.{Entry}
use Rattle.history.specs.Snapshots.{TakenSnapshot}
use Rattle.history.specs.Catalogue.{tables_made, marks, counted_of}
use Rattle.history.specs.History.{History, tx_events, catalogue_events}
use Rattle.history.specs.Places.{table_at, AreCatalogueSound}
use Rattle.history.specs.Presence.{entries_present, sees_stamp}
use Rattle.row_router.specs.Histories.{tree_of, ddl_tree}
use Rattle.row_router.specs.Siblings.{AreSiblings}
use Rattle.row_router.specs.Trees.{TableTree, accepting, routed, found_leaf, IsSound, IsRowOf, Fits}

-- at most one leaf of a tree accepts a row, the one on its way
abbrev pub OneLeaf : Type 0
OneLeaf = (columns : List Column) (row : List Value) (t : TableTree) → IsSound columns t → accepting row t ≡ found_leaf (routed row t)

-- a row of the columns may be asked of each tree whose keys lie in them
abbrev pub RowsFit : Type 0
RowsFit = (columns : List Column) (row : List Value) (t : TableTree) → IsSound columns t → IsRowOf columns row → Fits row t

-- where the entries that are present are siblings, each tree of a history is sound, with the columns of its table
abbrev pub TreesAreSound : Type 0
TreesAreSound = (h : History) (session table : ℕ) (snap : TakenSnapshot) → AreCatalogueSound h → AreSiblings (entries_present h session)
    → IsSound (table_at (tables_made (catalogue_events h)) table).columns (tree_of h session table snap)
    × IsSound (table_at (tables_made (catalogue_events h)) table).columns (ddl_tree h session table)

-- the snapshot sees the mark of the entry that counts
abbrev pub sees_mark : History → TakenSnapshot → Entry → Bool
sees_mark h snap e = sees_stamp (tx_events h) snap (counted_of (tx_events h) (marks (catalogue_events h)) e.id.number)

-- two snapshots that see the same marks are shown one tree
abbrev pub SameMarksSameTree : Type 0
SameMarksSameTree = (h : History) (session table : ℕ) (a b : TakenSnapshot) → ((e : Entry) → sees_mark h a e ≡ sees_mark h b e) → tree_of h session table a ≡ tree_of h session table b

-- a snapshot that sees no mark is shown all pending partitions, as a statement that changes tables
abbrev pub UnseenMarksShow : Type 0
UnseenMarksShow = (h : History) (session table : ℕ) (snap : TakenSnapshot) → ((e : Entry) → sees_mark h snap e ≡ false) → tree_of h session table snap ≡ ddl_tree h session table

-- in plain order a default stands last
abbrev pub DefaultStandsLast : Type 0
DefaultStandsLast = (bounds : List Bound) (i : ℕ) (d : Bound) → IsInPlainOrder bounds → i < length bounds → is_default (slice_index_or bounds i d) ≡ true → i + 1 ≡ length bounds
