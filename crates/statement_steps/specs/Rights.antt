-- What a session may do with tables, and what its command reads of one.
use Rattle.std.specs.Prelude.{ℕ, ◌<◌, List, All, ◌≡◌}
use Rattle.pg_values.specs.declared.ids.TableNo.{TableNo}
use Rattle.history.specs.History.{History}
use Rattle.legal_statements.specs.Locked.{IsWritable}
use Rattle.stores.specs.Stand.{Stands}
use Rattle.stores.specs.declared.stores.Stores.{Stores}
use Rattle.stores.specs.Events.{look_of}
use Rattle.statement_steps.specs.Known.{IsKnownTo}
use Rattle.statement_steps.specs.declared.caller.Caller.{Caller}
use Rattle.row_router.specs.declared.path_part.PathPart.{PathPart}
use Rattle.row_router.specs.Histories.{tree_of, path_of}
use Rattle.row_router.specs.Trees.{TableTree}
use Rattle.tx_table.specs.Kept.{KeptTable}
use Rattle.tx_table.specs.Stands.{TableStands}
use Rattle.part_catalog.specs.Kept.{KeptCatalogue}
use Rattle.part_catalog.specs.Stands.{CatalogueStands}

-- the session may write the rows of these tables
abbrev pub MayWrite : Stores → (session : ℕ) → List TableNo → Type 0
MayWrite stores s tables = (h : History) → Stands stores h → All (λ t. IsWritable h s t.number) tables

-- the session may lock the table
abbrev pub MayLock : Stores → (session : ℕ) → TableNo → Type 0
MayLock stores s t = (t.number < 4096) × IsKnownTo stores s t.number

-- ---- what is read of a table

-- the tree that the session's command reads of a table, and the path above it
pub record IsReadOf (txs : KeptTable) (catalog : KeptCatalogue) (caller : Caller) (table : TableNo) (tree : TableTree) (path : List PathPart) : Type 0 where
  pub is_tree : (h : History) → TableStands txs h → CatalogueStands catalog h → tree ≡ tree_of h caller.session table.number (look_of h caller.session caller.cmd)
  pub is_path : (h : History) → TableStands txs h → CatalogueStands catalog h → path ≡ path_of h caller.session table.number
