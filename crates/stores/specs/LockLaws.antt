-- What a session has locked while its transaction is open (the manual, 13.3.1).
use Rattle.std.specs.Prelude.{◌≡◌, ℕ, true, ◌⊎◌, Some, None, slice_index_or}
use Rattle.pg_values.specs.Sets.{has}
use Rattle.pg_values.specs.declared.lock_mode.LockMode.{LockMode}
use Rattle.pg_values.specs.declared.lock_mode.LockMode.TheVariants.{RowExclusive, ShareUpdateExclusive, AccessExclusive}
use Rattle.history.specs.declared.version.Version.{Version}
use Rattle.history.specs.declared.version.End.{End}
use Rattle.history.specs.declared.catalogue.Entry.{Entry}
use Rattle.history.specs.Catalogue.{IsDropped, IsEntry, IsEntryEnd, IsMark}
use Rattle.history.specs.History.{History, tx_events, row_events, catalogue_events}
use Rattle.lock_table.specs.Kept.{held_at}
use Rattle.soundness.specs.Versions.{IsVersion, IsEnd}
use Rattle.soundness.specs.Worlds.{HasLeaf, Under, view}
use Rattle.soundness.specs.Parts.{IsMaker}
use Rattle.stores.specs.declared.stores.Stores.{Stores}
use Rattle.stores.specs.Stand.{Stands}

-- the lock table has the session's lock in that mode
abbrev pub HasLock : Stores → (session table : ℕ) → LockMode → Type 0
HasLock stores s x m = has (held_at stores.locks.held x m) s ≡ true

-- nobody else may hold anything there: ACCESS EXCLUSIVE, or its transaction made the table
abbrev pub Owns : Stores → History → (session tx table : ℕ) → Type 0
Owns stores h s t x = HasLock stores s x AccessExclusive ⊎ IsMaker (catalogue_events h) t x

-- its rows may be written
abbrev pub Writes : Stores → History → (session tx table : ℕ) → Type 0
Writes stores h s t x = HasLock stores s x RowExclusive ⊎ Owns stores h s t x

-- its partitions may be changed
abbrev pub Guards : Stores → History → (session tx table : ℕ) → Type 0
Guards stores h s t x = HasLock stores s x ShareUpdateExclusive ⊎ Owns stores h s t x

-- whatever the session's transaction has done it has locked: versions that it made and ended; partitions that it added,
-- with all that is below them, ended and marked; tables that it dropped
pub record AreLocked (stores : Stores) (h : History) (s t : ℕ) : Type 0 where
  pub born : (v : Version) (x : ℕ) → IsVersion (row_events h) v → v.by.number ≡ t → HasLeaf (catalogue_events h) x v.leaf → Writes stores h s t x
  pub ended : (v : Version) (y : End) (x : ℕ) → IsVersion (row_events h) v → IsEnd (row_events h) v.id.number y → y.by.number ≡ t → HasLeaf (catalogue_events h) x v.leaf → Writes stores h s t x
  pub added : (e : Entry) → IsEntry (catalogue_events h) e → e.by.number ≡ t → Guards stores h s t e.parent.number
  pub below : (e : Entry) (n x : ℕ) → IsEntry (catalogue_events h) e → e.by.number ≡ t → Under (catalogue_events h) (view (tx_events h) t) n e.child.number x → Owns stores h s t x
  pub parted : (e : Entry) → IsEntry (catalogue_events h) e → IsEntryEnd (catalogue_events h) e.id.number t → Guards stores h s t e.parent.number
  pub marked : (e : Entry) → IsEntry (catalogue_events h) e → IsMark (catalogue_events h) e.id.number t → Guards stores h s t e.parent.number
  pub dropped : (x : ℕ) → IsDropped (catalogue_events h) x t → Owns stores h s t x

-- as long as it is open
abbrev pub ChangesAreLocked : Type 0
ChangesAreLocked = (stores : Stores) (h : History) (s t : ℕ) → Stands stores h → slice_index_or stores.txs.current s None ≡ Some t → AreLocked stores h s t
