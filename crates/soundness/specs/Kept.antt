-- The parts of the invariant that speak of kept CHECKs, each for every world (the manual, ALTER TABLE, DETACH PARTITION).
use Rattle.std.specs.Prelude.{◌≡◌, ℕ, true, false, List}
use Rattle.pg_values.specs.declared.value.Value.{Value}
use Rattle.bound_forms.specs.Accepts.{accepts, is_default}
use Rattle.history.specs.declared.transaction.Fate.TheVariants.{Running}
use Rattle.history.specs.declared.version.Version.{Version}
use Rattle.history.specs.declared.catalogue.TableShape.TheVariants.{Level}
use Rattle.history.specs.declared.catalogue.Entry.{Entry}
use Rattle.history.specs.declared.catalogue.Check.{Check}
use Rattle.history.specs.Transactions.{TxEvents, fate}
use Rattle.history.specs.Snapshots.{SnapshotEvents}
use Rattle.history.specs.Rows.{RowEvents}
use Rattle.history.specs.Catalogue.{CatalogueEvents, IsEntry, IsEntryEnd, IsKeptCheck}
use Rattle.history.specs.Locks.{LockEvents}
use Rattle.history.specs.History.{History, tx_events, snapshot_events, row_events, catalogue_events, lock_events}
use Rattle.row_router.specs.Trees.{key_of}
use Rattle.soundness.specs.Versions.{IsVersion}
use Rattle.soundness.specs.Worlds.{World, IsWorld, table_in, HasLeaf, Under}
use Rattle.soundness.specs.Shown.{MayShow}
use Rattle.soundness.specs.Parts.{Owns, Guards}

abbrev pub Passes : Check → List Value → Type 0
Passes c row = accepts (key_of c.kept.level row) c.kept.bound ≡ true

-- the CHECK counts in a world
abbrev pub CountsIn : CatalogueEvents → World → Check → Type 0
CountsIn cats w c = IsKeptCheck cats c × (w c.by.number ≡ true)

-- the row passes each CHECK of the table and of those above it
abbrev pub PassAbove : CatalogueEvents → World → ℕ → List Value → Type 0
PassAbove cats w x row = (c : Check) (n : ℕ) → CountsIn cats w c → Under cats w n c.table.number x → Passes c row

-- the CHECK says of a row what the entry, which is not DEFAULT, says at its parent
pub record Repeats (cats : CatalogueEvents) (c : Check) (e : Entry) : Type 0 where
  pub child : e.child.number ≡ c.table.number
  pub level : (table_in cats e.parent.number).shape ≡ Level c.kept.level
  pub bound : e.bound ≡ c.kept.bound
  pub named : is_default e.bound ≡ false

-- and wherever the CHECK counts, the entry's birth does, and the parent is guarded; where it does not count, no end of the
-- entry does
pub record IsRepeated (txs : TxEvents) (cats : CatalogueEvents) (locks : LockEvents) (c : Check) (e : Entry) : Type 0 where
  pub entry : IsEntry cats e
  pub repeats : Repeats cats c e
  pub born : (w : World) → IsWorld txs w → w c.by.number ≡ true → w e.by.number ≡ true
  pub guarded : (w : World) → IsWorld txs w → w c.by.number ≡ true → Guards txs cats locks w c.by.number e.parent.number
  pub unended : (w : World) (u : ℕ) → IsWorld txs w → w c.by.number ≡ false → IsEntryEnd cats e.id.number u → w u ≡ false

-- a CHECK of a transaction that runs repeats an entry of its table, which is owned
pub record OpenChecks (txs : TxEvents) (cats : CatalogueEvents) (locks : LockEvents) : Type 0 where
  pub repeated : (c : Check) → IsKeptCheck cats c → fate txs c.by.number ≡ Running → (e : Entry) × IsRepeated txs cats locks c e
  pub owned : (w : World) (c : Check) → IsWorld txs w → IsKeptCheck cats c → fate txs c.by.number ≡ Running → w c.by.number ≡ true → Owns txs cats locks w c.by.number c.table.number

-- no two CHECKs of one table say the same in a world
abbrev pub AreTwo : CatalogueEvents → World → Type 0
AreTwo cats w = (c d : Check) → CountsIn cats w c → CountsIn cats w d → c.table.number ≡ d.table.number → c.kept ≡ d.kept → c ≡ d

-- what may be shown passes the CHECKs of its leaf's table and of those above it
abbrev pub AreChecked : TxEvents → SnapshotEvents → RowEvents → CatalogueEvents → Type 0
AreChecked txs snaps rows cats = (w : World) (v : Version) (x : ℕ) → IsWorld txs w → IsVersion rows v → MayShow txs snaps rows w v → HasLeaf cats x v.leaf → PassAbove cats w x v.row

pub record Checks (txs : TxEvents) (snaps : SnapshotEvents) (rows : RowEvents) (cats : CatalogueEvents) (locks : LockEvents) : Type 0 where
  pub opened : OpenChecks txs cats locks
  pub two : (w : World) → IsWorld txs w → AreTwo cats w
  pub checked : AreChecked txs snaps rows cats

abbrev pub ChecksOf : History → Type 0
ChecksOf h = Checks (tx_events h) (snapshot_events h) (row_events h) (catalogue_events h) (lock_events h)
