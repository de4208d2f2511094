-- When the stores of a run stand for its history.
use Rattle.std.specs.Prelude.{◌≡◌, ℕ, ◌<◌, ◌≤◌, List, ◌++◌, None, IsSome, length, slice_index_or}
use Rattle.history.specs.History.{Event, History}
use Rattle.tx_table.specs.Stands.{TableStands}
use Rattle.row_store.specs.Stands.{StoreStands}
use Rattle.part_catalog.specs.Stands.{CatalogueStands}
use Rattle.lock_table.specs.Stands.{TableStands as LocksStand}
use Rattle.stores.specs.declared.stores.Stores.{Stores}
use Rattle.stores.specs.Good.{IsGood}

-- each of the four stands for the history
pub record AllStand (stores : Stores) (h : History) : Type 0 where
  pub txs : TableStands stores.txs h
  pub rows : StoreStands stores.rows h
  pub catalog : CatalogueStands stores.catalog h
  pub locks : LocksStand stores.locks h

-- and each event of it might come, and there are no more leaves than tables
pub record Stands (stores : Stores) (h : History) : Type 0 where
  pub all : AllStand stores h
  pub good : IsGood h
  pub leaves : stores.rows.leaves ≤ length stores.catalog.tables

-- there is such a history
pub record IsSound (stores : Stores) : Type 0 where
  pub h : History
  pub stands : Stands stores h

-- after the call the stores stand for the history with those events before it
abbrev pub Adds : (old new : Stores) → (History → List Event) → Type 0
Adds old new events = (h : History) → AllStand old h → AllStand new (events h ++ h)

-- and each of the events might come
abbrev pub AddsGood : (old new : Stores) → (History → List Event) → Type 0
AddsGood old new events = (h : History) → Stands old h → Stands new (events h ++ h)

-- ---- what is asked of a session

-- the session is one of the run's
pub record HasSeat (stores : Stores) (session : ℕ) : Type 0 where
  pub txs : session < length stores.txs.current
  pub locks : session < length stores.locks.wants

-- it has a transaction, or none
abbrev pub HasOpen : Stores → ℕ → Type 0
HasOpen stores session = IsSome (slice_index_or stores.txs.current session None)

abbrev pub HasNone : Stores → ℕ → Type 0
HasNone stores session = slice_index_or stores.txs.current session None ≡ None

-- there are as many sessions as before, and tables that can be locked
pub record IsSameSize (old new : Stores) : Type 0 where
  pub txs : length new.txs.current ≡ length old.txs.current
  pub waits : length new.locks.wants ≡ length old.locks.wants
  pub tables : new.locks.tables ≡ old.locks.tables
