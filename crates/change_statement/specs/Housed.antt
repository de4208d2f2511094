-- What an UPDATE knows of the leaves where its rows go (the manual, UPDATE).
use Rattle.std.specs.Prelude.{ℕ, Bool, false, Option, Some, None}
use Rattle.pg_values.specs.declared.ids.LeafId.{LeafId}
use Rattle.history.specs.History.{History}
use Rattle.tx_table.specs.Kept.{KeptTable}
use Rattle.tx_table.specs.Stands.{TableStands}
use Rattle.row_router.specs.Trees.{TableTree}
use Rattle.part_catalog.specs.Kept.{KeptCatalogue}
use Rattle.part_catalog.specs.Stands.{CatalogueStands}
use Rattle.row_change.specs.declared.target.Target.{Target}
use Rattle.row_change.specs.Storing.{is_into}
use Rattle.row_change.specs.Targets.{AreHolders, IsTargetOf}
use Rattle.stores.specs.declared.stores.Stores.{Stores}
use Rattle.change_statement.specs.declared.housing.Housing.{Housing}

-- there is a target, and it is that of the leaf
abbrev pub goes_into : LeafId → Option Target → Bool
goes_into leaf None = false
goes_into leaf (Some target) = is_into leaf target

-- a target is one of the tree
abbrev pub IsOfTree : KeptTable → KeptCatalogue → (session : ℕ) → TableTree → Option Target → Type 0
IsOfTree txs catalog s tree None = Unit {0}
IsOfTree txs catalog s tree (Some target) = (h : History) → TableStands txs h → CatalogueStands catalog h → IsTargetOf h s tree target

-- the tables of the tree are known by their leaves, and the target of the last row is one of the tree
pub record IsHousing (stores : Stores) (session : ℕ) (tree : TableTree) (housing : Housing) : Type 0 where
  pub holders : AreHolders housing.holders tree
  pub last : IsOfTree stores.txs stores.catalog session tree housing.last
