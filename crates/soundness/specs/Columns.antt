-- What the stored rows are like (the manual, CREATE TABLE, and ALTER TABLE, ATTACH PARTITION).
use Rattle.std.specs.Prelude.{ℕ, List, ◌⊎◌}
use Rattle.std.specs.List.{Contains}
use Rattle.pg_values.specs.declared.value.Value.{Value}
use Rattle.pg_values.specs.declared.ids.LeafId.{LeafId}
use Rattle.history.specs.declared.version.Version.{Version}
use Rattle.history.specs.Snapshots.{TakenSnapshot}
use Rattle.history.specs.Rows.{RowEvents}
use Rattle.history.specs.Catalogue.{CatalogueEvents}
use Rattle.history.specs.History.{History, row_events, catalogue_events}
use Rattle.row_router.specs.Trees.{IsRowOf, leaves}
use Rattle.row_router.specs.Histories.{tree_of, ddl_tree}
use Rattle.soundness.specs.Versions.{IsVersion}
use Rattle.soundness.specs.Worlds.{table_in, HasLeaf}

-- the row is one of the table's columns: a value for each, null or of its kind
abbrev pub IsOfTable : CatalogueEvents → ℕ → List Value → Type 0
IsOfTable cats x row = IsRowOf (table_in cats x).columns row

-- each row version is one of the columns of the table that has its leaf
abbrev pub AreOfTables : RowEvents → CatalogueEvents → Type 0
AreOfTables rows cats = (v : Version) (x : ℕ) → IsVersion rows v → HasLeaf cats x v.leaf → IsOfTable cats x v.row

abbrev pub ColumnsOf : History → Type 0
ColumnsOf h = AreOfTables (row_events h) (catalogue_events h)

-- the leaf is one of a table's tree, as a statement reads it under a snapshot or as one that changes tables works on it
abbrev pub IsLeafBelow : History → (session table : ℕ) → TakenSnapshot → LeafId → Type 0
IsLeafBelow h session table s leaf = Contains (leaves (tree_of h session table s)) leaf ⊎ Contains (leaves (ddl_tree h session table)) leaf
