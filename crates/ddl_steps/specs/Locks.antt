-- Tables that a statement locks in ACCESS EXCLUSIVE mode before it changes them (the manual, 13.3.1 Table-Level Locks).
use Rattle.std.specs.Prelude.{◌≡◌, ℕ, ◌<◌, true, List, Some, All, length}
use Rattle.pg_values.specs.Sets.{has}
use Rattle.pg_values.specs.declared.ids.TableNo.{TableNo}
use Rattle.pg_values.specs.declared.lock_mode.LockMode.TheVariants.{AccessExclusive}
use Rattle.history.specs.History.{History}
use Rattle.history.specs.Locks.{holds}
use Rattle.tx_table.specs.Stands.{TableStands}
use Rattle.lock_table.specs.Kept.{held_at}
use Rattle.part_catalog.specs.Found.{resolved}
use Rattle.part_catalog.specs.Stands.{CatalogueStands}
use Rattle.part_ddl.specs.Below.{default_of}
use Rattle.ddl_steps.specs.Families.{family_of, numbers_under}
use Rattle.stores.specs.declared.stores.Stores.{Stores}
use Rattle.statement_steps.specs.Made.{Made}
use Rattle.statement_steps.specs.Asks.{all_locked}

-- the session holds ACCESS EXCLUSIVE on the table
abbrev pub IsLocked : Stores → (session table : ℕ) → Type 0
IsLocked stores s x = has (held_at stores.locks.held x AccessExclusive) s ≡ true

-- a name means the table to the session, which has locked it
pub record IsLockedNamed (stores : Stores) (session table : ℕ) : Type 0 where
  pub name : List ℕ
  pub named : (h : History) → TableStands stores.txs h → CatalogueStands stores.catalog h → resolved h session name ≡ Some table
  pub made : table < length stores.catalog.tables
  pub locked : IsLocked stores session table

-- the session holds ACCESS EXCLUSIVE on all of these
abbrev pub AreLocked : Stores → (session : ℕ) → List TableNo → Type 0
AreLocked stores s tables = All (λ t. IsLocked stores s t.number) tables

abbrev pub HasDefaultLocked : Stores → (session table : ℕ) → Type 0
HasDefaultLocked stores s t = (h : History) → TableStands stores.txs h → CatalogueStands stores.catalog h → AreLocked stores s (family_of h s (default_of h s t))

-- ---- the default partition of a table

-- the default partition of a table and the tables under it are locked
abbrev pub default_locked : List (List ℕ) → (session table : ℕ) → History → Made (Unit {0})
default_locked names s t h = all_locked names s AccessExclusive (numbers_under h s (default_of h s t)) h
