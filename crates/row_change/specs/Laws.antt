-- What may be asked of the paths and trees that a history gives.
use Rattle.std.specs.Prelude.{◌≡◌, ◌≢◌, ℕ, ◌<◌, List, Some, Ok, All, length}
use Rattle.std.specs.List.{AllPairs}
use Rattle.pg_values.specs.declared.value.Value.{Value}
use Rattle.pg_values.specs.declared.ids.LeafId.{LeafId}
use Rattle.pg_values.specs.declared.ids.TableNo.{TableNo}
use Rattle.history.specs.Snapshots.{TakenSnapshot}
use Rattle.history.specs.Catalogue.{tables_made}
use Rattle.history.specs.History.{History, catalogue_events}
use Rattle.history.specs.Places.{table_at, AreCatalogueSound}
use Rattle.history.specs.Presence.{entries_present}
use Rattle.row_router.specs.Histories.{tree_of, ddl_tree, path_of}
use Rattle.row_router.specs.Siblings.{AreSiblings}
use Rattle.row_router.specs.Trees.{TableTree, IsRowOf, leaves, routed}
use Rattle.row_router.specs.Paths.{PartFits}
use Rattle.row_change.specs.Placing.{CanBePlaced, IsNumbered, IsPartNumbered}
use Rattle.row_change.specs.Ways.{way_below, way_to}
use Rattle.part_catalog.specs.Kept.{KeptCatalogue}
use Rattle.part_catalog.specs.Stands.{CatalogueStands}

-- there is such a table
abbrev pub IsMade : History → TableNo → Type 0
IsMade h t = t.number < length (tables_made (catalogue_events h))

-- and the row is one of its columns
abbrev pub IsRowIn : History → List Value → TableNo → Type 0
IsRowIn h row t = IsMade h t × IsRowOf (table_at (tables_made (catalogue_events h)) t.number).columns row

-- where the entries that are present are siblings, a row of a table's columns may be asked of the table's path, and of its
-- tree and its path
abbrev pub PathsFit : Type 0
PathsFit = (h : History) (session : ℕ) (t : TableNo) (row : List Value) → AreCatalogueSound h → AreSiblings (entries_present h session) → IsRowIn h row t
    → All (PartFits row) (path_of h session t.number)

abbrev pub RowsCanBePlaced : Type 0
RowsCanBePlaced = (h : History) (session : ℕ) (t : TableNo) (snap : TakenSnapshot) (row : List Value) → AreCatalogueSound h → AreSiblings (entries_present h session) → IsRowIn h row t
    → CanBePlaced (tree_of h session t.number snap) (path_of h session t.number) row

-- the tables of a path and of a tree are made
abbrev pub PathsAreMade : Type 0
PathsAreMade = (h : History) (session : ℕ) (t : TableNo) → AreCatalogueSound h → IsMade h t → All (IsPartNumbered (length (tables_made (catalogue_events h)))) (path_of h session t.number)

abbrev pub TreesAreMade : Type 0
TreesAreMade = (h : History) (session : ℕ) (t : TableNo) (snap : TakenSnapshot) → AreCatalogueSound h → IsMade h t
    → IsNumbered (length (tables_made (catalogue_events h))) (tree_of h session t.number snap) × IsNumbered (length (tables_made (catalogue_events h))) (ddl_tree h session t.number)

-- a row of a table's columns is one of the columns of each table on a way below it
abbrev pub RowsAreOfWays : Type 0
RowsAreOfWays = (h : History) (session : ℕ) (t : TableNo) (snap : TakenSnapshot) (row : List Value) → AreCatalogueSound h → IsRowIn h row t
    → ((other : List Value) → All (IsRowIn h row) (way_below other (tree_of h session t.number snap)))
    × ((leaf : LeafId) (tables : List TableNo) → way_to leaf (tree_of h session t.number snap) ≡ Some tables → All (IsRowIn h row) tables)

-- where no two tables have one leaf, the way of a row is the way to its leaf
abbrev pub WaysLeadToLeaves : Type 0
WaysLeadToLeaves = (row : List Value) (t : TableTree) (leaf : LeafId) → AllPairs (λ a b. a.number ≢ b.number) (leaves t) → routed row t ≡ Ok leaf → way_to leaf t ≡ Some (way_below row t)

-- the rows are of the table's columns
abbrev pub AreRowsOf : KeptCatalogue → TableNo → List (List Value) → Type 0
AreRowsOf catalog t rows = (h : History) → CatalogueStands catalog h → All (λ row. IsRowIn h row t) rows
