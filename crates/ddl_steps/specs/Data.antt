-- The stores without their locks.
use Rattle.history.specs.History.{History}
use Rattle.tx_table.specs.Stands.{TableStands}
use Rattle.row_store.specs.Stands.{StoreStands}
use Rattle.part_catalog.specs.Stands.{CatalogueStands}
use Rattle.stores.specs.declared.stores.Stores.{Stores}

-- transactions, rows and tables stand for the history, whatever is locked
pub record DataStand (stores : Stores) (h : History) : Type 0 where
  pub txs : TableStands stores.txs h
  pub rows : StoreStands stores.rows h
  pub catalog : CatalogueStands stores.catalog h
