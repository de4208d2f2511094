-- The history of a run, the newest event first, and what a snapshot shows of it (the manual, 13.2).
use Rattle.std.specs.Prelude.{ℕ, ◌==◌, ◌&&◌, not, Bool, false, List, [], ◌∷◌, Option, Some, None, is_none, filter, length, nat_lt, unwrap_or}
use Rattle.history.specs.declared.transaction.Fate.{Fate}
use Rattle.history.specs.declared.transaction.Fate.TheVariants.{Running, Committed, Aborted}
use Rattle.history.specs.declared.version.Version.{Version}
use Rattle.history.specs.declared.version.End.{End}
use Rattle.history.specs.declared.version.Ending.{Ending}
use Rattle.history.specs.Transactions.{TxEvent, TxEvents, fate, open_of}
use Rattle.history.specs.Snapshots.{SnapshotEvent, SnapshotEvents, TakenSnapshot, sees, held_by}
use Rattle.history.specs.Catalogue.{CatalogueEvent, CatalogueEvents}
use Rattle.history.specs.Rows.{RowEvent, RowEvents, births, end_in}
use Rattle.history.specs.Locks.{LockEvent, LockEvents}

-- an event of each store
pub data Event : Type 0 where
  TxChange : TxEvent → Event
  SnapshotChange : SnapshotEvent → Event
  RowChange : RowEvent → Event
  LockChange : LockEvent → Event
  CatalogueChange : CatalogueEvent → Event

abbrev pub History : Type 0
History = List Event

abbrev pub tx_events : History → TxEvents
tx_events [] = []
tx_events (TxChange e ∷ h) = e ∷ tx_events h
tx_events (_ ∷ h) = tx_events h

abbrev pub snapshot_events : History → SnapshotEvents
snapshot_events [] = []
snapshot_events (SnapshotChange e ∷ h) = e ∷ snapshot_events h
snapshot_events (_ ∷ h) = snapshot_events h

abbrev pub row_events : History → RowEvents
row_events [] = []
row_events (RowChange e ∷ h) = e ∷ row_events h
row_events (_ ∷ h) = row_events h

abbrev pub lock_events : History → LockEvents
lock_events [] = []
lock_events (LockChange e ∷ h) = e ∷ lock_events h
lock_events (_ ∷ h) = lock_events h

abbrev pub catalogue_events : History → CatalogueEvents
catalogue_events [] = []
catalogue_events (CatalogueChange e ∷ h) = e ∷ catalogue_events h
catalogue_events (_ ∷ h) = catalogue_events h

-- all versions, in order of birth
abbrev pub versions : History → List Version
versions h = births (row_events h)

-- how many there are, which is the number of the next one
abbrev pub next_version : History → ℕ
next_version h = length (versions h)

-- the end of the version that counts
abbrev pub end_of : History → ℕ → Option End
end_of h k = end_in (tx_events h) (row_events h) k

-- the snapshot that a session takes now: its open transaction's, with command number 0
abbrev pub fresh : TxEvents → ℕ → TakenSnapshot
fresh txs session = record { past = txs; tx = unwrap_or (open_of txs session) 0; cmd = 0 }

-- the snapshot that a session is given: the one that it holds, else a fresh one
abbrev pub held_or_fresh : Option TakenSnapshot → TxEvents → ℕ → TakenSnapshot
held_or_fresh None txs session = fresh txs session
held_or_fresh (Some s) txs session = s

abbrev pub given : History → ℕ → TakenSnapshot
given h session = held_or_fresh (held_by (snapshot_events h) session) (tx_events h) session

-- the snapshot sees the end, if there is one
abbrev pub sees_end : TxEvents → TakenSnapshot → Option End → Bool
sees_end txs s None = false
sees_end txs s (Some e) = sees txs s e.by.number e.cmd

-- the snapshot sees the version's birth, and its end, if there is one, not
abbrev pub is_seen : History → TakenSnapshot → Version → Bool
is_seen h s v = sees (tx_events h) s v.by.number v.cmd && not (sees_end (tx_events h) s (end_of h v.id.number))

-- the versions of the leaf that the snapshot sees, in order of birth
abbrev pub seen : History → ℕ → TakenSnapshot → List Version
seen h leaf s = filter (λ v. (v.leaf.number == leaf) && is_seen h s v) (versions h)

-- there is such a version, and no end of it counts
abbrev pub stands : History → ℕ → Bool
stands h k = nat_lt k (next_version h) && is_none (end_of h k)

-- what became of a version: it stands, a transaction that runs has ended it, or a committed one has
pub data Outcome : Type 0 where
  Standing : Outcome
  EndedByRunning : (tx : ℕ) → Outcome
  EndedFor : (tx : ℕ) → Ending → Outcome

abbrev pub outcome_by : Fate → End → Outcome
outcome_by Running e = EndedByRunning e.by.number
outcome_by Committed e = EndedFor e.by.number e.how
outcome_by Aborted e = Standing

abbrev pub outcome_in : TxEvents → Option End → Outcome
outcome_in txs None = Standing
outcome_in txs (Some e) = outcome_by (fate txs e.by.number) e

abbrev pub outcome : History → ℕ → Outcome
outcome h k = outcome_in (tx_events h) (end_of h k)
