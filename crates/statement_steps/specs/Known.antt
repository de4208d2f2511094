-- Which tables a session may ask for: they are made, and one of an open transaction is its own.
use Rattle.std.specs.Prelude.{◌≡◌, ℕ, ◌<◌, Some, None, length, slice_index_or}
use Rattle.history.specs.declared.transaction.Fate.TheVariants.{Running}
use Rattle.part_catalog.specs.Kept.{no_stored}
use Rattle.stores.specs.declared.stores.Stores.{Stores}

abbrev pub maker_of : Stores → (table : ℕ) → ℕ
maker_of stores x = (slice_index_or stores.catalog.tables x no_stored).table.by.number

pub record IsKnownTo (stores : Stores) (session table : ℕ) : Type 0 where
  pub made : table < length stores.catalog.tables
  pub own : slice_index_or stores.txs.fates (maker_of stores table) Running ≡ Running → slice_index_or stores.txs.current session None ≡ Some (maker_of stores table)
