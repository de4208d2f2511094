-- What is asked of the rows of an INSERT before they are stored.
use Rattle.std.specs.Prelude.{◌≡◌, ℕ, ◌<◌, true, List, [], ◌∷◌, None, Ok, All, find, length}
use Rattle.pg_values.specs.declared.value.Value.{Value}
use Rattle.pg_values.specs.declared.ids.LeafId.{LeafId}
use Rattle.pg_values.specs.declared.ids.TableNo.{TableNo}
use Rattle.history.specs.Snapshots.{TakenSnapshot}
use Rattle.history.specs.Rows.{leaf_count}
use Rattle.history.specs.History.{History, row_events, catalogue_events}
use Rattle.row_router.specs.declared.path_part.PathPart.{PathPart}
use Rattle.row_router.specs.Histories.{tree_of, path_of}
use Rattle.row_router.specs.Trees.{TableTree, routed}
use Rattle.bound_forms.specs.declared.level.Level.{Level}
use Rattle.history.specs.declared.catalogue.TableShape.TheVariants.{Level as Levels}
use Rattle.tx_table.specs.Kept.{KeptTable}
use Rattle.part_catalog.specs.Found.{made_at}
use Rattle.part_catalog.specs.Kept.{KeptCatalogue}
use Rattle.part_catalog.specs.Stands.{CatalogueStands}
use Rattle.row_router.specs.declared.path.PathTest.TheVariants.{Bounds, Checks}
use Rattle.row_router.specs.Paths.{refused}
use Rattle.row_change.specs.declared.target.Target.{Target}
use Rattle.row_change.specs.Laws.{AreRowsOf}
use Rattle.row_change.specs.Placing.{all_placed, tables_of}
use Rattle.row_change.specs.Storing.{is_into, leaf_faults, FitsTargets, IsLeafKnown, IsTargetNumbered}
use Rattle.row_change.specs.Targets.{HasTarget, HasWay}
use Rattle.soundness.specs.Worlds.{IsMade, HasLeaf}
use Rattle.soundness.specs.Columns.{IsOfTable}
use Rattle.legal_statements.specs.Locked.{IsWritable}
use Rattle.legal_statements.specs.Rows.{IsOwnLook}
use Rattle.stores.specs.Stand.{Stands}
use Rattle.stores.specs.declared.stores.Stores.{Stores}
use Rattle.statement_steps.specs.Made.{Made}
use Rattle.statement_steps.specs.declared.caller.Caller.{Caller}
use Rattle.insert_statement.specs.Born.{all_born}
use Rattle.statement_steps.specs.Owned.{own}
use Rattle.statement_steps.specs.Rights.{IsReadOf}

-- ---- rows below a partitioned table

-- they are those of a partitioned table, and the rows are of its columns
pub record IsTreeFor (txs : KeptTable) (catalog : KeptCatalogue) (caller : Caller) (tree : TableTree) (path : List PathPart) (rows : List (List Value)) : Type 0 where
  pub table : TableNo
  pub known : table.number < length catalog.tables
  pub rows_of : AreRowsOf catalog table rows
  pub is_level : (h : History) → CatalogueStands catalog h → (level : Level) × ((made_at h table.number).shape ≡ Levels level)
  pub read : IsReadOf txs catalog caller table tree path

-- by such a tree each row has its leaf
pub record ArePlaced (txs : KeptTable) (catalog : KeptCatalogue) (caller : Caller) (tree : TableTree) (leaves : List LeafId) (rows : List (List Value)) : Type 0 where
  pub path : List PathPart
  pub by_tree : IsTreeFor txs catalog caller tree path rows
  pub placed : (h : History) → CatalogueStands catalog h → all_placed (tables_of h) tree path rows ≡ Ok leaves
  pub ways : All (HasWay tree) leaves

-- ---- rows with their leaves

-- so it is of each leaf, of which there are no more than rows, and its row
abbrev pub Each : (LeafId → List Value → Type 0) → List LeafId → List (List Value) → Type 0
Each P [] rows = Unit {0}
Each P (l ∷ ls) [] = ⊥
Each P (l ∷ ls) (r ∷ rs) = P l r × Each P ls rs

-- where the targets stand for the tables of the leaves
abbrev pub put : List Target → Caller → List LeafId → List (List Value) → History → Made (Unit {0})
put targets caller leaves rows h = all_born (own h caller.session) caller.cmd (λ l row. leaf_faults (tables_of h) (find (is_into l) targets) row) leaves rows h

-- the row is one of the table's columns and may go into the leaf, by which it gets a place below the table, and whose CHECKs
-- it passes
pub record MayGo (h : History) (session table : ℕ) (s : TakenSnapshot) (leaf : LeafId) (row : List Value) : Type 0 where
  pub columns : IsOfTable (catalogue_events h) table row
  pub placed : refused Bounds row (path_of h session table) ≡ None
  pub routed : routed row (tree_of h session table s) ≡ Ok leaf
  pub passes : (x : ℕ) → HasLeaf (catalogue_events h) x leaf → refused Checks row (path_of h session x) ≡ None
  pub locked : (x : ℕ) → HasLeaf (catalogue_events h) x leaf → IsWritable h session x
  pub there : leaf.number < leaf_count (row_events h)

-- each row against which nothing stands may be stored, by what the session reads of some table
pub record MayPut (h : History) (session : ℕ) (targets : List Target) (leaves : List LeafId) (rows : List (List Value)) : Type 0 where
  pub table : ℕ
  pub look : TakenSnapshot
  pub made : IsMade (catalogue_events h) table
  pub own_look : IsOwnLook h session look
  pub go : Each (λ l row. leaf_faults (tables_of h) (find (is_into l) targets) row ≡ [] → MayGo h session table look l row) leaves rows

-- the rows may be tested and stored, each leaf having its target
pub record MayStore (stores : Stores) (session : ℕ) (targets : List Target) (leaves : List LeafId) (rows : List (List Value)) : Type 0 where
  pub fits : All (FitsTargets targets) rows
  pub numbered : All (IsTargetNumbered (length stores.catalog.tables)) targets
  pub told : All (HasTarget targets) leaves
  pub known : All (IsLeafKnown stores.rows.leaves) leaves
  pub may : (h : History) → Stands stores h → MayPut h session targets leaves rows

-- ---- the target of a table that is named

-- the target is of the table, which has the leaf
pub record IsOwnTarget (h : History) (s : ℕ) (t : TableNo) (leaf : LeafId) (target : Target) : Type 0 where
  pub leaf_is : target.leaf ≡ leaf
  pub table : target.table ≡ t
  pub path : target.path ≡ path_of h s t.number
  pub is_named : target.is_named ≡ true
