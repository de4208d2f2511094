-- Which event may come after a history (the manual, 13.2).
use Rattle.std.specs.Prelude.{◌≡◌, ℕ, ◌<◌, ◌≤◌, [], ◌∷◌, ◌⊎◌, Option, Some, None}
use Rattle.history.specs.Transactions.{TxEvents, open_of, IsSound}
use Rattle.history.specs.Snapshots.{TakenSnapshot, SnapshotEvent, SnapshotHeld, SnapshotDropped, held_by}
use Rattle.history.specs.Rows.{RowEvents, LeafAdded, RowBorn, RowEnded}
use Rattle.history.specs.History.{Event, History, TxChange, SnapshotChange, RowChange, LockChange, CatalogueChange, tx_events, snapshot_events, row_events, lock_events}
use Rattle.history.specs.RowsSound.{IsRowSound}
use Rattle.history.specs.LocksSound.{IsLockSound}
use Rattle.history.specs.Catalogue.{catalogue_command}
use Rattle.history.specs.Places.{IsCatalogueSound}

-- a session holds a snapshot that is taken now, or one of the transaction and the place of the one that it
-- holds
abbrev pub IsTimely : Option TakenSnapshot → TxEvents → TakenSnapshot → Type 0
IsTimely None txs s = s.past ≡ txs
IsTimely (Some old) txs s = (s.past ≡ txs) ⊎ ((s.past ≡ old.past) × (s.tx ≡ old.tx))

-- a session holds a snapshot of its open transaction
pub record IsHoldSound (session : ℕ) (s : TakenSnapshot) (h : History) : Type 0 where
  pub own : open_of (tx_events h) session ≡ Some s.tx
  pub timely : IsTimely (held_by (snapshot_events h) session) (tx_events h) s

-- what the transaction did to row versions, it did by commands below that number
abbrev pub ChangedBefore : RowEvents → ℕ → ℕ → Type 0
ChangedBefore [] tx cmd = Unit {0}
ChangedBefore (LeafAdded l ∷ rows) tx cmd = ChangedBefore rows tx cmd
ChangedBefore (RowBorn v ∷ rows) tx cmd = (v.by.number ≡ tx → v.cmd < cmd) × ChangedBefore rows tx cmd
ChangedBefore (RowEnded k e ∷ rows) tx cmd = (e.by.number ≡ tx → e.cmd < cmd) × ChangedBefore rows tx cmd

-- a snapshot is held before its command changes rows
abbrev pub MayHold : SnapshotEvent → History → Type 0
MayHold (SnapshotHeld r s) h = IsHoldSound r s h × ChangedBefore (row_events h) s.tx s.cmd
MayHold (SnapshotDropped r) h = Unit {0}

-- what is asked of an event of its kind
abbrev pub May : Event → History → Type 0
May (TxChange e) h = IsSound (e ∷ tx_events h)
May (SnapshotChange e) h = MayHold e h
May (RowChange e) h = IsRowSound e h
May (LockChange e) h = IsLockSound e (lock_events h)
May (CatalogueChange e) h = IsCatalogueSound e h

-- the transaction and the number of the command that the event names
abbrev pub command_of : Event → Option (ℕ × ℕ)
command_of (SnapshotChange (SnapshotHeld r s)) = Some (s.tx, s.cmd)
command_of (RowChange (RowBorn v)) = Some (v.by.number, v.cmd)
command_of (RowChange (RowEnded k e)) = Some (e.by.number, e.cmd)
command_of (CatalogueChange e) = catalogue_command e
command_of _ = None

-- the one command is not of the other's transaction, or has no greater number
abbrev pub IsNotAfter : Option (ℕ × ℕ) → Option (ℕ × ℕ) → Type 0
IsNotAfter (Some (t, m)) (Some (u, n)) = t ≡ u → m ≤ n
IsNotAfter _ _ = Unit {0}

-- the command numbers of a transaction never fall
abbrev pub IsInOrder : Option (ℕ × ℕ) → History → Type 0
IsInOrder c [] = Unit {0}
IsInOrder c (e ∷ h) = IsNotAfter (command_of e) c × IsInOrder c h

-- each event could come
abbrev pub IsLegal : History → Type 0
IsLegal [] = Unit {0}
IsLegal (e ∷ h) = May e h × IsInOrder (command_of e) h × IsLegal h
