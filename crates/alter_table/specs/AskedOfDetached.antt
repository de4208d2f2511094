-- What is asked of a table that leaves its place.
use Rattle.std.specs.Prelude.{◌≡◌, ℕ, true, Some, Ok}
use Rattle.pg_values.specs.Sets.{has}
use Rattle.pg_values.specs.declared.ids.TableNo.{TableNo}
use Rattle.pg_values.specs.declared.lock_mode.LockMode.TheVariants.{ShareUpdateExclusive, AccessExclusive}
use Rattle.history.specs.History.{History}
use Rattle.lock_table.specs.Kept.{held_at}
use Rattle.tx_table.specs.Stands.{TableStands}
use Rattle.part_catalog.specs.Answers.{child_told, pending_entry}
use Rattle.part_catalog.specs.Stands.{CatalogueStands}
use Rattle.stores.specs.declared.stores.Stores.{Stores}
use Rattle.alter_table.specs.Concurrent.{markable}
use Rattle.alter_table.specs.Detached.{is_table}
use Rattle.ddl_steps.specs.Families.{parent_in}

-- the table is a partition of the parent for the session
abbrev pub IsPartition : Stores → (session : ℕ) → (parent : TableNo) → (table : ℕ) → Type 0
IsPartition stores s parent t = (h : History) → TableStands stores.txs h → CatalogueStands stores.catalog h → parent_in h s t ≡ Some parent

-- the session holds SHARE UPDATE EXCLUSIVE on the table: nobody else changes its partitions
abbrev pub HasGuarded : Stores → (session table : ℕ) → Type 0
HasGuarded stores s x = has (held_at stores.locks.held x ShareUpdateExclusive) s ≡ true

-- and here ACCESS EXCLUSIVE: nobody else does anything with it
abbrev pub HasOwned : Stores → (session table : ℕ) → Type 0
HasOwned stores s x = has (held_at stores.locks.held x AccessExclusive) s ≡ true

-- the table is the pending partition of the parent for the session
abbrev pub IsPendingPart : Stores → (session : ℕ) → (parent : TableNo) → (table : ℕ) → Type 0
IsPendingPart stores s parent t = (h : History) → TableStands stores.txs h → CatalogueStands stores.catalog h → is_table (child_told (pending_entry h s parent.number)) t ≡ true

-- nothing stands against the mark
abbrev pub MayBeMarked : Stores → (session parent table : ℕ) → Type 0
MayBeMarked stores s p t = (h : History) → TableStands stores.txs h → CatalogueStands stores.catalog h → markable h s p t ≡ Ok tt
