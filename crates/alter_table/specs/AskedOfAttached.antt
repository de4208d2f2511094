-- What is asked of a table that is attached.
use Rattle.std.specs.Prelude.{◌≡◌, ℕ, ◌<◌, true, [], None, Some, List, length}
use Rattle.std.specs.List.{Contains}
use Rattle.pg_values.specs.Sets.{has}
use Rattle.pg_values.specs.declared.ids.TableNo.{TableNo}
use Rattle.pg_values.specs.declared.lock_mode.LockMode.TheVariants.{ShareUpdateExclusive}
use Rattle.bound_forms.specs.declared.partition_bound.Bound.{Bound}
use Rattle.history.specs.History.{History}
use Rattle.history.specs.Places.{TakesBound, HasColumnsOf}
use Rattle.history.specs.Presence.{entries_present}
use Rattle.row_router.specs.declared.path_part.PathPart.{PathPart}
use Rattle.row_router.specs.Histories.{above, ddl_tree, path_of}
use Rattle.row_router.specs.Trees.{TableTree, height}
use Rattle.tx_table.specs.Stands.{TableStands}
use Rattle.lock_table.specs.Kept.{held_at}
use Rattle.part_catalog.specs.Found.{made_at, resolved}
use Rattle.part_catalog.specs.Stands.{CatalogueStands}
use Rattle.part_ddl.specs.Below.{tables_from, IsTreeOf}
use Rattle.part_ddl.specs.Placing.{place_faults}
use Rattle.legal_statements.specs.Below.{numbers_from}
use Rattle.legal_statements.specs.Locked.{IsOwned}
use Rattle.stores.specs.Good.{IsGood}
use Rattle.stores.specs.declared.stores.Stores.{Stores}
use Rattle.ddl_steps.specs.Data.{DataStand}
use Rattle.ddl_steps.specs.Scans.{IsClean}
use Rattle.ddl_steps.specs.Locks.{IsLockedNamed, AreLocked, HasDefaultLocked}
use Rattle.alter_table.specs.Attached.{scans}

-- nothing stands against the table below the parent with that bound
pub record MayBeAttached (h : History) (session parent table : ℕ) (b : Bound) : Type 0 where
  pub takes : TakesBound (made_at h parent).shape b
  pub columns : HasColumnsOf (made_at h parent).columns (made_at h table).columns
  pub no_partition : above (entries_present h session) table ≡ None
  pub not_above : Contains (numbers_from h session table) parent → ⊥
  pub place : place_faults h session parent b (height (ddl_tree h session table)) ≡ []

-- and so it is in each history that the stores stand for
abbrev pub HasPlace : Stores → (session parent table : ℕ) → Bound → Type 0
HasPlace stores s p t b = (h : History) → TableStands stores.txs h → CatalogueStands stores.catalog h → MayBeAttached h s p t b

-- transactions, rows and tables stand for a history of a run, in which nobody else may use the table and what is below it
pub record IsJudgedIn (stores : Stores) (session table : ℕ) (h : History) : Type 0 where
  pub tells : DataStand stores h
  pub good : IsGood h
  pub owned : (x : ℕ) → Contains (numbers_from h session table) x → IsOwned h session x

-- no row of the table, and none of the default partition of the parent, stands against it
abbrev pub AreRowsClean : Stores → (session parent table : ℕ) → Bound → Type 0
AreRowsClean stores s p t b = (h : History) → IsJudgedIn stores s t h → IsClean h s (scans s p t b h)

-- ---- the locks

-- a name means the table to the session, which has locked it so that nobody else changes its partitions
pub record IsGuardedNamed (stores : Stores) (session table : ℕ) : Type 0 where
  pub name : List ℕ
  pub named : (h : History) → TableStands stores.txs h → CatalogueStands stores.catalog h → resolved h session name ≡ Some table
  pub made : table < length stores.catalog.tables
  pub guarded : has (held_at stores.locks.held table ShareUpdateExclusive) session ≡ true

-- the table and those under it are locked
abbrev pub HasFamilyLocked : Stores → (session table : ℕ) → Type 0
HasFamilyLocked stores s t = (h : History) → TableStands stores.txs h → CatalogueStands stores.catalog h → AreLocked stores s (tables_from h s t)

-- all that is to be locked
pub record HasLockedAll (stores : Stores) (session parent table : ℕ) : Type 0 where
  pub guarded : IsGuardedNamed stores session parent
  pub locked : IsLockedNamed stores session table
  pub family : HasFamilyLocked stores session table
  pub default : HasDefaultLocked stores session parent

-- ---- what the session sees

abbrev pub AreFrom : Stores → (session table : ℕ) → List TableNo → Type 0
AreFrom stores s t tables = (h : History) → TableStands stores.txs h → CatalogueStands stores.catalog h → tables ≡ tables_from h s t

abbrev pub IsPathOf : Stores → (session table : ℕ) → List PathPart → Type 0
IsPathOf stores s t path = (h : History) → TableStands stores.txs h → CatalogueStands stores.catalog h → path ≡ path_of h s t

-- the trees of the two tables, the path of the parent, and the tables from the other one down
pub record SeesBoth (stores : Stores) (session parent table : ℕ) (tree own : TableTree) (path : List PathPart) (tables : List TableNo) : Type 0 where
  pub parent_tree : IsTreeOf stores.txs stores.catalog session parent tree
  pub parent_path : IsPathOf stores session parent path
  pub table_tree : IsTreeOf stores.txs stores.catalog session table own
  pub table_family : AreFrom stores session table tables
