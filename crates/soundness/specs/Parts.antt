-- The parts of the invariant, each for every world.
use Rattle.std.specs.Prelude.{◌≡◌, ◌≢◌, ◌<◌, ◌≤◌, ℕ, suc, true, false, List, ◌⊎◌, Some, All, length}
use Rattle.std.specs.List.{AllPairs}
use Rattle.pg_values.specs.declared.lock_mode.LockMode.{LockMode}
use Rattle.pg_values.specs.declared.lock_mode.LockMode.TheVariants.{RowExclusive, ShareUpdateExclusive, AccessExclusive}
use Rattle.pg_values.specs.declared.ids.LeafId.{LeafId}
use Rattle.pg_values.specs.declared.ids.TableNo.{TableNo}
use Rattle.pg_values.specs.Modes.{conflicts}
use Rattle.bound_forms.specs.Accepts.{is_default}
use Rattle.history.specs.declared.transaction.Fate.TheVariants.{Running}
use Rattle.history.specs.declared.version.Version.{Version}
use Rattle.history.specs.declared.version.End.{End}
use Rattle.history.specs.declared.catalogue.Entry.{Entry}
use Rattle.history.specs.declared.wait.Wanted.TheVariants.{Lock}
use Rattle.history.specs.Transactions.{TxEvents, next_tx, open_of, fate}
use Rattle.history.specs.Snapshots.{SnapshotEvents, TakenSnapshot, held_by}
use Rattle.history.specs.Rows.{RowEvents}
use Rattle.history.specs.Catalogue.{CatalogueEvents, tables_made, IsDropped, IsEntry, IsEntryEnd, IsMark}
use Rattle.history.specs.Locks.{LockEvents, holds, wanted}
use Rattle.history.specs.History.{History, tx_events, snapshot_events, row_events, catalogue_events, lock_events}
use Rattle.history.specs.Places.{Suits}
use Rattle.row_router.specs.Siblings.{CanStandTogether}
use Rattle.soundness.specs.Versions.{IsVersion, IsEnd}
use Rattle.soundness.specs.Worlds.{World, same_tx, IsWorld, table_in, IsMade, HasLeaf, IsThere, Present, IsPending, Under, AcceptAbove}
use Rattle.soundness.specs.Shown.{MayShow}

-- ---- what a transaction has locked

-- its session holds the mode on the table
abbrev pub HoldsBy : TxEvents → LockEvents → ℕ → ℕ → LockMode → Type 0
HoldsBy txs locks q x m = (s : ℕ) × (open_of txs s ≡ Some q) × (holds locks s x m ≡ true)

-- it made the table
abbrev pub IsMaker : CatalogueEvents → ℕ → ℕ → Type 0
IsMaker cats q x = IsMade cats x × ((table_in cats x).by.number ≡ q)

-- nobody else may hold anything on the table: it is locked with AE, or was made there
abbrev pub OwnsBy : TxEvents → CatalogueEvents → LockEvents → ℕ → ℕ → Type 0
OwnsBy txs cats locks q x = HoldsBy txs locks q x AccessExclusive ⊎ IsMaker cats q x

-- it may be written: RE, AE or made there
abbrev pub WritesBy : TxEvents → CatalogueEvents → LockEvents → ℕ → ℕ → Type 0
WritesBy txs cats locks q x = HoldsBy txs locks q x RowExclusive ⊎ OwnsBy txs cats locks q x

-- its partitions may be changed: SUE, AE or made there
abbrev pub GuardsBy : TxEvents → CatalogueEvents → LockEvents → ℕ → ℕ → Type 0
GuardsBy txs cats locks q x = HoldsBy txs locks q x ShareUpdateExclusive ⊎ OwnsBy txs cats locks q x

-- the same of a transaction, in a world: by whatever of it counts there
abbrev pub Owns : TxEvents → CatalogueEvents → LockEvents → World → ℕ → ℕ → Type 0
Owns txs cats locks w t x = (q : ℕ) × (same_tx txs t q ≡ true) × (w q ≡ true) × OwnsBy txs cats locks q x

abbrev pub Writes : TxEvents → CatalogueEvents → LockEvents → World → ℕ → ℕ → Type 0
Writes txs cats locks w t x = (q : ℕ) × (same_tx txs t q ≡ true) × (w q ≡ true) × WritesBy txs cats locks q x

abbrev pub Guards : TxEvents → CatalogueEvents → LockEvents → World → ℕ → ℕ → Type 0
Guards txs cats locks w t x = (q : ℕ) × (same_tx txs t q ≡ true) × (w q ≡ true) × GuardsBy txs cats locks q x

-- the table is made, and by no open transaction of another session
abbrev pub IsKnown : TxEvents → CatalogueEvents → ℕ → ℕ → Type 0
IsKnown txs cats s x = IsMade cats x × (fate txs (table_in cats x).by.number ≡ Running → open_of txs s ≡ Some (table_in cats x).by.number)

-- ---- the parts

-- no two sessions hold modes that conflict; and nobody holds a lock, or waits for one, on a table that an open
-- transaction of another session made
pub record LocksApart (txs : TxEvents) (cats : CatalogueEvents) (locks : LockEvents) : Type 0 where
  pub apart : (a b x : ℕ) (m n : LockMode) → a ≢ b → holds locks a x m ≡ true → holds locks b x n ≡ true → conflicts m n ≡ false
  pub known : (s x : ℕ) (m : LockMode) → holds locks s x m ≡ true → IsKnown txs cats s x
  pub awaited : (s : ℕ) (x : TableNo) (m : LockMode) → wanted locks s ≡ Some (Lock x m) → IsKnown txs cats s x.number

-- what made versions and took snapshots has begun
pub record AreBegun (txs : TxEvents) (snaps : SnapshotEvents) (rows : RowEvents) : Type 0 where
  pub versions : (v : Version) → IsVersion rows v → v.by.number < next_tx txs
  pub snapshots : (r : ℕ) (s : TakenSnapshot) → held_by snaps r ≡ Some s → s.tx < next_tx txs

-- an open transaction writes where it holds RE or more; an end counts only where the birth does
pub record OpenVersions (txs : TxEvents) (rows : RowEvents) (cats : CatalogueEvents) (locks : LockEvents) : Type 0 where
  pub born : (w : World) (v : Version) (x : ℕ) → IsWorld txs w → IsVersion rows v → HasLeaf cats x v.leaf → fate txs v.by.number ≡ Running → w v.by.number ≡ true
      → Writes txs cats locks w v.by.number x
  pub ended : (w : World) (v : Version) (y : End) (x : ℕ) → IsWorld txs w → IsVersion rows v → HasLeaf cats x v.leaf → IsEnd rows v.id.number y
      → fate txs y.by.number ≡ Running → w y.by.number ≡ true → Writes txs cats locks w y.by.number x
  pub in_order : (w : World) (v : Version) (y : End) → IsWorld txs w → IsVersion rows v → IsEnd rows v.id.number y → w y.by.number ≡ true → w v.by.number ≡ true

-- who added an entry, and runs, guards its parent and owns all below it and below the default beside it; who ended or
-- marked one guards its parent, and who dropped a table owns it
pub record OpenEntries (txs : TxEvents) (cats : CatalogueEvents) (locks : LockEvents) : Type 0 where
  pub added : (w : World) (e : Entry) → IsWorld txs w → IsEntry cats e → fate txs e.by.number ≡ Running → w e.by.number ≡ true → Guards txs cats locks w e.by.number e.parent.number
  pub below : (w : World) (e : Entry) (n x : ℕ) → IsWorld txs w → IsEntry cats e → fate txs e.by.number ≡ Running → w e.by.number ≡ true
      → Under cats w n e.child.number x → Owns txs cats locks w e.by.number x
  pub beside : (w : World) (e d : Entry) (n x : ℕ) → IsWorld txs w → IsEntry cats e → fate txs e.by.number ≡ Running → w e.by.number ≡ true
      → Present cats w d → d.parent.number ≡ e.parent.number → is_default d.bound ≡ true → Under cats w n d.child.number x → Owns txs cats locks w e.by.number x
  pub ended : (w : World) (e : Entry) (u : ℕ) → IsWorld txs w → IsEntry cats e → IsEntryEnd cats e.id.number u → fate txs u ≡ Running → w u ≡ true → Guards txs cats locks w u e.parent.number
  pub marked : (w : World) (e : Entry) (u : ℕ) → IsWorld txs w → IsEntry cats e → IsMark cats e.id.number u → fate txs u ≡ Running → w u ≡ true → Guards txs cats locks w u e.parent.number
  pub dropped : (w : World) (x u : ℕ) → IsWorld txs w → IsDropped cats x u → fate txs u ≡ Running → w u ≡ true → Owns txs cats locks w u x

-- a leaf is that of one table
pub record AreTables (cats : CatalogueEvents) : Type 0 where
  pub one_home : (x y : ℕ) (leaf : LeafId) → HasLeaf cats x leaf → HasLeaf cats y leaf → x ≡ y

-- entries have numbers of their own, and suit their tables: both are made, the parent takes the bound, and the child has
-- the parent's columns
pub record AreEntries (cats : CatalogueEvents) : Type 0 where
  pub numbered : (e f : Entry) → IsEntry cats e → IsEntry cats f → e.id.number ≡ f.id.number → e ≡ f
  pub suited : (e : Entry) → IsEntry cats e → Suits (tables_made cats) e

-- entries below one table, no two of one number
pub record AreChildren (cats : CatalogueEvents) (w : World) (x : ℕ) (es : List Entry) : Type 0 where
  pub below : All (λ e. Present cats w e × (e.parent.number ≡ x)) es
  pub two : AllPairs (λ e f. e.id.number ≢ f.id.number) es

-- the entries of a world form a forest of tables that are there: each table is the child of one of them at most, none
-- stands above itself, a path has at most eight tables and a parent at most 1,024 children; siblings can stand together,
-- at most one of them is pending, and none beside a default; two tables there have two names
pub record Siblings (cats : CatalogueEvents) (w : World) : Type 0 where
  pub one_parent : (e f : Entry) → Present cats w e → Present cats w f → e.child.number ≡ f.child.number → e ≡ f
  pub together : (e f : Entry) → Present cats w e → Present cats w f → e.id.number ≢ f.id.number → CanStandTogether e f
  pub no_cycle : (n x : ℕ) → Under cats w (suc n) x x → ⊥
  pub shallow : (top x : ℕ) → Under cats w 8 top x → ⊥
  pub few : (x : ℕ) (es : List Entry) → AreChildren cats w x es → length es ≤ 1024
  pub there : (e : Entry) → Present cats w e → IsThere cats w e.parent.number × IsThere cats w e.child.number
  pub one_pending : (e f : Entry) → Present cats w e → Present cats w f → e.parent.number ≡ f.parent.number → IsPending cats w e → IsPending cats w f → e ≡ f
  pub no_default : (e d : Entry) → Present cats w e → Present cats w d → e.parent.number ≡ d.parent.number → IsPending cats w e → is_default d.bound ≡ false
  pub named : (x y : ℕ) → IsThere cats w x → IsThere cats w y → (table_in cats x).name ≡ (table_in cats y).name → x ≡ y

abbrev pub AllSiblings : TxEvents → CatalogueEvents → Type 0
AllSiblings txs cats = (w : World) → IsWorld txs w → Siblings cats w

-- what may be shown in a leaf is accepted by each entry above it
abbrev pub IsFit : CatalogueEvents → World → Version → Type 0
IsFit cats w v = (x : ℕ) → HasLeaf cats x v.leaf → AcceptAbove cats w x v.row

abbrev pub AreFit : TxEvents → SnapshotEvents → RowEvents → CatalogueEvents → Type 0
AreFit txs snaps rows cats = (w : World) (v : Version) → IsWorld txs w → IsVersion rows v → MayShow txs snaps rows w v → IsFit cats w v

pub record Invariant (txs : TxEvents) (snaps : SnapshotEvents) (rows : RowEvents) (cats : CatalogueEvents) (locks : LockEvents) : Type 0 where
  pub begun : AreBegun txs snaps rows
  pub locks_apart : LocksApart txs cats locks
  pub open_versions : OpenVersions txs rows cats locks
  pub open_entries : OpenEntries txs cats locks
  pub tables : AreTables cats
  pub entries : AreEntries cats
  pub siblings : AllSiblings txs cats
  pub fit : AreFit txs snaps rows cats

abbrev pub InvariantOf : History → Type 0
InvariantOf h = Invariant (tx_events h) (snapshot_events h) (row_events h) (catalogue_events h) (lock_events h)

-- ---- what a transaction has locked, of a history

abbrev pub OwnsIn : History → World → ℕ → ℕ → Type 0
OwnsIn h w t x = Owns (tx_events h) (catalogue_events h) (lock_events h) w t x

abbrev pub WritesIn : History → World → ℕ → ℕ → Type 0
WritesIn h w t x = Writes (tx_events h) (catalogue_events h) (lock_events h) w t x

abbrev pub GuardsIn : History → World → ℕ → ℕ → Type 0
GuardsIn h w t x = Guards (tx_events h) (catalogue_events h) (lock_events h) w t x
