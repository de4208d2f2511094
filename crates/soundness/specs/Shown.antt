-- Which versions somebody may see, in a world.
use Rattle.std.specs.Prelude.{◌≡◌, ◌≢◌, ℕ, ◌&&◌, ◌||◌, nat_lt, Bool, true, false, ◌⊎◌, Some}
use Rattle.history.specs.declared.transaction.Fate.TheVariants.{Running, Committed, Aborted}
use Rattle.history.specs.declared.version.Version.{Version}
use Rattle.history.specs.declared.version.End.{End}
use Rattle.history.specs.Transactions.{TxEvents, fate, is_committed}
use Rattle.history.specs.Snapshots.{SnapshotEvents, TakenSnapshot, held_by, sees}
use Rattle.history.specs.Rows.{RowEvents}
use Rattle.soundness.specs.Versions.{IsEnd}
use Rattle.soundness.specs.Worlds.{World, same_tx, IsWorld, IsPart, view}

-- a fresh snapshot in that world shows the version: its birth counts, and no end of it does
abbrev pub Shows : RowEvents → World → Version → Type 0
Shows rows w v = (w v.by.number ≡ true) × ((x : End) → IsEnd rows v.id.number x → w x.by.number ≡ false)

-- what an older snapshot sees in a world: of its own transaction only what counts there
abbrev pub sees_in : TxEvents → World → TakenSnapshot → ℕ → ℕ → Bool
sees_in txs w s tx cmd = is_committed (fate s.past tx) || (same_tx txs s.tx tx && (w tx && nat_lt cmd s.cmd))

abbrev pub ShowsTo : TxEvents → RowEvents → World → TakenSnapshot → Version → Type 0
ShowsTo txs rows w s v = (sees_in txs w s v.by.number v.cmd ≡ true) × ((x : End) → IsEnd rows v.id.number x → sees_in txs w s x.by.number x.cmd ≡ false)

-- in the trees of this world somebody may see the version: its birth counts, and it is shown by a fresh
-- snapshot of a smaller world, or by one that is open
abbrev pub MayShow : TxEvents → SnapshotEvents → RowEvents → World → Version → Type 0
MayShow txs snaps rows w v = (w v.by.number ≡ true)
    × (((k : World) × IsWorld txs k × IsPart txs k w × Shows rows k v) ⊎ ((r : ℕ) × (s : TakenSnapshot) × (held_by snaps r ≡ Some s) × ShowsTo txs rows w s v))

-- a version is live for a scan by that transaction: its birth is committed or own, no end of it is committed,
-- and it was not both made and ended by the transaction itself
abbrev pub IsLive : TxEvents → RowEvents → ℕ → Version → Type 0
IsLive txs rows t v = (view txs t v.by.number ≡ true) × ((x : End) → IsEnd rows v.id.number x → (fate txs x.by.number ≢ Committed) × (fate txs x.by.number ≡ Running → same_tx txs t x.by.number ≡ true → same_tx txs t v.by.number ≡ false))

-- an open snapshot sees the version
abbrev pub IsSeenBy : TxEvents → RowEvents → TakenSnapshot → Version → Type 0
IsSeenBy txs rows s v = (sees txs s v.by.number v.cmd ≡ true) × ((x : End) → IsEnd rows v.id.number x → fate txs x.by.number ≢ Aborted → sees txs s x.by.number x.cmd ≡ false)

-- a scan judges the version: it is live, or some open snapshot sees it
abbrev pub IsJudged : TxEvents → SnapshotEvents → RowEvents → ℕ → Version → Type 0
IsJudged txs snaps rows t v = IsLive txs rows t v ⊎ ((r : ℕ) × (s : TakenSnapshot) × (held_by snaps r ≡ Some s) × IsSeenBy txs rows s v)
