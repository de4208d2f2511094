-- What is asked of tables that are made and dropped.
use Rattle.std.specs.Prelude.{◌≡◌, ℕ, ◌<◌, true, List, [], ◌∷◌, ◌++◌, Option, Some, None, Vec, map, length}
use Rattle.std.specs.List.{Contains}
use Rattle.std.specs.Option.{option_to_list}
use Rattle.pg_values.specs.Sets.{has}
use Rattle.pg_values.specs.declared.ids.TableNo.{TableNo}
use Rattle.pg_values.specs.declared.lock_mode.LockMode.TheVariants.{AccessExclusive}
use Rattle.bound_forms.specs.declared.level.Level.{Level}
use Rattle.bound_forms.specs.declared.partition_bound.Bound.{Bound}
use Rattle.history.specs.declared.catalogue.Entry.{Entry}
use Rattle.history.specs.declared.transaction.TxId.{TxId}
use Rattle.history.specs.History.{History, tx_events, lock_events}
use Rattle.history.specs.Legal.{IsInOrder}
use Rattle.history.specs.Locks.{holds}
use Rattle.history.specs.Places.{TakesBound}
use Rattle.history.specs.Presence.{entries_present}
use Rattle.history.specs.Transactions.{open_of}
use Rattle.tx_table.specs.Stands.{TableStands}
use Rattle.part_catalog.specs.Found.{made_at, resolved, taken_by, table_number}
use Rattle.part_catalog.specs.Stands.{CatalogueStands}
use Rattle.part_ddl.specs.Below.{default_of, tables_from}
use Rattle.part_ddl.specs.Placing.{place_faults}
use Rattle.part_ddl.specs.Tables.{KeysFit, count_faults}
use Rattle.legal_statements.specs.Below.{numbers_from}
use Rattle.stores.specs.Stand.{Stands}
use Rattle.ddl_steps.specs.Data.{DataStand}
use Rattle.ddl_steps.specs.Places.{default_scan}
use Rattle.ddl_steps.specs.Scans.{IsClean}
use Rattle.ddl_steps.specs.Families.{parent_in}
use Rattle.ddl_steps.specs.Locks.{IsLocked}
use Rattle.stores.specs.declared.stores.Stores.{Stores}
use Rattle.statement_steps.specs.declared.caller.Caller.{Caller}
use Rattle.table_statements.specs.Drops.{default_beside}

-- ---- tables that are made

-- no table of the name is there for the session, and no other open transaction has made one
pub record IsFree (h : History) (session : ℕ) (name : List ℕ) : Type 0 where
  pub absent : resolved h session name ≡ None
  pub unclaimed : taken_by h session name ≡ None

-- and there is room for one more
pub record MayBeMade (h : History) (session : ℕ) (name : List ℕ) : Type 0 where
  pub free : IsFree h session name
  pub few : count_faults h ≡ []

-- a new partition has a place below the parent
pub record MayBePlaced (h : History) (session parent : ℕ) (b : Bound) (level : Option Level) : Type 0 where
  pub takes : TakesBound (made_at h parent).shape b
  pub place : place_faults h session parent b 1 ≡ []
  pub keys : KeysFit (made_at h parent).columns level

-- ---- tables that are locked

-- no row of it belongs to a new partition, and no other session's open snapshot sees one that does
abbrev pub HasDefaultClean : Stores → (session table : ℕ) → Bound → (name : List ℕ) → Type 0
HasDefaultClean stores s t b name = (h : History) → DataStand stores h → IsClean h s (default_scan h s t b name (default_of h s t))

-- ---- tables that are dropped

-- the table above, the table and those under it, and the default partition beside it
abbrev pub to_lock : History → (session table : ℕ) → List TableNo
to_lock h s t = option_to_list (parent_in h s t) ++ (tables_from h s t ++ option_to_list (default_beside h s (parent_in h s t)))

-- the table and those under it are locked, and the table above it
pub record MayDropTable (stores : Stores) (session : ℕ) (t : TableNo) : Type 0 where
  pub made : t.number < length stores.catalog.tables
  pub owned : (h : History) (x : ℕ) → TableStands stores.txs h → CatalogueStands stores.catalog h → Contains (numbers_from h session t.number) x → IsLocked stores session x
  pub guarded : (h : History) (e : Entry) → TableStands stores.txs h → CatalogueStands stores.catalog h → Contains (entries_present h session) e → e.child.number ≡ t.number → IsLocked stores session e.parent.number

-- so it is in a history in which the command comes to the drop of the table
pub record IsGoing (h : History) (caller : Caller) (by : TxId) (table : ℕ) : Type 0 where
  pub own : open_of (tx_events h) caller.session ≡ Some by.number
  pub command : IsInOrder (Some (by.number, caller.cmd)) h
  pub made : table < table_number h
  pub owned : (x : ℕ) → Contains (numbers_from h caller.session table) x → holds (lock_events h) caller.session x AccessExclusive ≡ true
  pub guarded : (e : Entry) → Contains (entries_present h caller.session) e → e.child.number ≡ table → holds (lock_events h) caller.session e.parent.number AccessExclusive ≡ true

-- the stores stand for such a history
pub record MayGo (stores : Stores) (caller : Caller) (by : TxId) (table : ℕ) : Type 0 where
  pub h : History
  pub stands : Stands stores h
  pub going : IsGoing h caller by table

-- ---- what contracts see

abbrev pub one_or_none : Option TableNo → List ℕ
one_or_none None = []
one_or_none (Some t) = t.number ∷ []

abbrev pub numbers : {A : Type 0} → Vec TableNo A → List ℕ
numbers tables = map (λ t. t.number) tables.items
