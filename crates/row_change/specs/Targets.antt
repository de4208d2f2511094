-- The leaves of rows, and what a statement that names a table of the tree above them knows of each.
use Rattle.std.specs.Prelude.{◌≡◌, ℕ, true, false, is_some, List, [], ◌∷◌, Option, Some, None, Ok, option_map, All, length, slice_index_or, unwrap_or}
use Rattle.std.specs.List.{list_any}
use Rattle.pg_values.specs.declared.value.Value.{Value}
use Rattle.pg_values.specs.declared.ids.LeafId.{LeafId}
use Rattle.pg_values.specs.declared.ids.TableNo.{TableNo}
use Rattle.pg_values.specs.declared.fault.Fault.{Fault}
use Rattle.history.specs.Snapshots.{TakenSnapshot}
use Rattle.history.specs.Catalogue.{tables_made}
use Rattle.history.specs.History.{History, catalogue_events}
use Rattle.history.specs.Places.{AreCatalogueSound}
use Rattle.history.specs.Presence.{entries_present}
use Rattle.row_router.specs.Histories.{tree_of, path_of}
use Rattle.row_router.specs.declared.path_part.PathPart.{PathPart}
use Rattle.row_router.specs.Siblings.{AreSiblings}
use Rattle.row_router.specs.Trees.{TableTree, routed}
use Rattle.row_router.specs.declared.path.PathTest.TheVariants.{Checks}
use Rattle.row_router.specs.Paths.{refused, PartFits}
use Rattle.row_change.specs.declared.target.Target.{Target}
use Rattle.row_change.specs.Laws.{IsRowIn}
use Rattle.row_change.specs.Placing.{IsPartNumbered, tables_of}
use Rattle.row_change.specs.Storing.{is_into, IsTargetNumbered, table_faults}
use Rattle.row_change.specs.Ways.{root, way_to}

-- the last table of a way, and the tree's own where it has none
abbrev pub last_table : TableNo → List TableNo → TableNo
last_table t [] = t
last_table t (x ∷ xs) = last_table x xs

-- the table of the tree that has the leaf
abbrev pub holder_in : TableTree → LeafId → Option TableNo
holder_in tree leaf = option_map (last_table (root tree)) (way_to leaf tree)

-- the table of a leaf among those of leaves, each at the place of its leaf's number
abbrev pub held_by : List (Option TableNo) → LeafId → Option TableNo
held_by tables leaf = slice_index_or tables leaf.number None

-- of each leaf the table of the tree that has it
abbrev pub AreHolders : List (Option TableNo) → TableTree → Type 0
AreHolders tables tree = (leaf : LeafId) → held_by tables leaf ≡ holder_in tree leaf

-- of a row that comes from above only the CHECKs along a path are asked: these parts refuse it as the path does, and may be
-- asked where the path may
pub record HasChecksOf (path parts : List PathPart) : Type 0 where
  pub refuses : (row : List Value) → refused Checks row parts ≡ refused Checks row path
  pub fits : (row : List Value) → All (PartFits row) path → All (PartFits row) parts
  pub numbered : (n : ℕ) → All (IsPartNumbered n) path → All (IsPartNumbered n) parts

-- the target is of the table that has its leaf
pub record IsTargetOf (h : History) (session : ℕ) (tree : TableTree) (target : Target) : Type 0 where
  pub tables : List TableNo
  pub way : way_to target.leaf tree ≡ Some tables
  pub table : target.table ≡ last_table (root tree) tables
  pub path : HasChecksOf (path_of h session target.table.number) target.path
  pub is_named : target.is_named ≡ false

-- a table of the tree has the leaf
abbrev pub HasWay : TableTree → LeafId → Type 0
HasWay tree leaf = is_some (way_to leaf tree) ≡ true

-- the leaf has a target
abbrev pub HasTarget : List Target → LeafId → Type 0
HasTarget targets leaf = list_any (is_into leaf) targets ≡ true

-- ---- laws

-- the tree has the leaf to which it routes a row
abbrev pub RoutedHaveWays : Type 0
RoutedHaveWays = (row : List Value) (tree : TableTree) (leaf : LeafId) → routed row tree ≡ Ok leaf → HasWay tree leaf

-- a row of the columns of the tree's table may be asked of the path of each such target, whose tables are made
abbrev pub TargetsFit : Type 0
TargetsFit = (h : History) (session : ℕ) (t : TableNo) (snap : TakenSnapshot) (row : List Value) (target : Target) → AreCatalogueSound h → AreSiblings (entries_present h session) → IsRowIn h row t → IsTargetOf h session (tree_of h session t.number snap) target
    → All (PartFits row) target.path × IsTargetNumbered (length (tables_made (catalogue_events h))) target

-- ---- the table that has a leaf, and what it says of a row

-- the table of the tree whose leaf it is
abbrev pub holder : TableTree → LeafId → TableNo
holder tree leaf = last_table (root tree) (unwrap_or (way_to leaf tree) [])

abbrev pub holder_faults : History → (session : ℕ) → TableTree → LeafId → List Value → List Fault
holder_faults h s tree leaf row = table_faults (tables_of h) (holder tree leaf) (path_of h s (holder tree leaf).number) false row
