-- Which tables a statement of a session may make (the manual, CREATE TABLE).
use Rattle.std.specs.Prelude.{◌≡◌, ◌≢◌, ℕ, ◌<◌, List, [], ◌∷◌, Some, None, length}
use Rattle.pg_values.specs.declared.ids.LeafId.{LeafId}
use Rattle.history.specs.declared.catalogue.Table.{Table}
use Rattle.history.specs.declared.catalogue.TableShape.TheVariants.{Leaf}
use Rattle.history.specs.Transactions.{open_of}
use Rattle.history.specs.Rows.{LeafAdded, leaf_count}
use Rattle.history.specs.Catalogue.{TableMade, tables_made}
use Rattle.history.specs.Places.{KeysLieIn}
use Rattle.history.specs.History.{Event, History, RowChange, CatalogueChange, tx_events, row_events, catalogue_events}
use Rattle.history.specs.Legal.{IsInOrder}
use Rattle.soundness.specs.Worlds.{HasLeaf}
use Rattle.part_catalog.specs.Found.{resolved, taken_by}

-- the leaf of each table was added
abbrev pub LeavesAreThere : History → Type 0
LeavesAreThere h = (x : ℕ) (leaf : LeafId) → HasLeaf (catalogue_events h) x leaf → leaf.number < leaf_count (row_events h)

-- the event makes no table with a leaf
abbrev pub MakesNoLeaf : Event → Type 0
MakesNoLeaf (CatalogueChange (TableMade table)) = (leaf : LeafId) → table.shape ≢ Leaf leaf
MakesNoLeaf e = Unit {0}

-- the session's transaction makes a table with the next number and a name that means nothing to the session, and that no
-- other open transaction has given to a table
pub record IsNewTable (h : History) (session : ℕ) (table : Table) : Type 0 where
  pub own : open_of (tx_events h) session ≡ Some table.by.number
  pub command : IsInOrder (Some (table.by.number, table.cmd)) h
  pub number : table.id.number ≡ length (tables_made (catalogue_events h))
  pub keys : KeysLieIn table.columns table.shape
  pub free : resolved h session table.name ≡ None
  pub unclaimed : taken_by h session table.name ≡ None

-- its rows lie in the next leaf
pub record IsNextLeaf (h : History) (table : Table) (leaf : LeafId) : Type 0 where
  pub shape : table.shape ≡ Leaf leaf
  pub number : leaf.number ≡ leaf_count (row_events h)

-- a table with rows of its own: its leaf is added before it
abbrev pub leaf_table : Table → LeafId → List Event
leaf_table table leaf = CatalogueChange (TableMade table) ∷ (RowChange (LeafAdded leaf.number) ∷ [])

-- a partitioned table
abbrev pub level_table : Table → List Event
level_table table = CatalogueChange (TableMade table) ∷ []
