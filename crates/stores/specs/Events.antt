-- What each call puts before the history, the newest event first (the manual, 13.2 and 13.3; BEGIN, COMMIT, ROLLBACK).
use Rattle.std.specs.Prelude.{ℕ, List, [], ◌∷◌, Option, Some, None, unwrap_or}
use Rattle.history.specs.Transactions.{TxEvent, TxBegan, TxCommitted, TxAborted, next_tx, open_of}
use Rattle.history.specs.Snapshots.{TakenSnapshot, SnapshotHeld, SnapshotDropped, held_by}
use Rattle.history.specs.Locks.{LocksGivenUp, SnapshotGone, WaitResumed, WaitWithdrawn}
use Rattle.history.specs.History.{Event, History, TxChange, SnapshotChange, LockChange, tx_events, snapshot_events, given}

-- the session's open transaction
abbrev pub tx_in : History → (session : ℕ) → ℕ
tx_in h s = unwrap_or (open_of (tx_events h) s) 0

-- the transaction with the next number begins
abbrev pub begun : History → (session : ℕ) → List Event
begun h s = TxChange (TxBegan s (next_tx (tx_events h))) ∷ []

-- the session gives up the snapshot that it holds, and nobody waits for it any more
abbrev pub let_go : (session : ℕ) → List Event
let_go s = LockChange (SnapshotGone s) ∷ (SnapshotChange (SnapshotDropped s) ∷ [])

-- the session's wait is withdrawn
abbrev pub withdrawn : (session : ℕ) → List Event
withdrawn s = LockChange (WaitWithdrawn s) ∷ []

-- the session's wait is over
abbrev pub resumed : (session : ℕ) → List Event
resumed s = LockChange (WaitResumed s) ∷ []

-- a transaction ends: the session waits for nothing and holds no snapshot before it ends, and gives up its locks after it
-- has ended
abbrev pub ended : TxEvent → (session : ℕ) → List Event
ended e s = LockChange (LocksGivenUp s) ∷ (TxChange e ∷ (LockChange (SnapshotGone s) ∷ (SnapshotChange (SnapshotDropped s) ∷ (LockChange (WaitWithdrawn s) ∷ []))))

abbrev pub committed : History → (session : ℕ) → List Event
committed h s = ended (TxCommitted s (tx_in h s)) s

abbrev pub aborted : History → (session : ℕ) → List Event
aborted h s = ended (TxAborted s (tx_in h s)) s

-- the snapshot with another command number
abbrev pub with_command : ℕ → TakenSnapshot → TakenSnapshot
with_command cmd s = record { past = s.past; tx = s.tx; cmd = cmd }

-- the snapshot that a statement of the session reads under: the one that the session holds, else one that is taken now
abbrev pub look_of : History → (session cmd : ℕ) → TakenSnapshot
look_of h s cmd = with_command cmd (given h s)

-- where the session holds none, it holds that one from now on
abbrev pub held_first : Option TakenSnapshot → (session : ℕ) → TakenSnapshot → List Event
held_first None s snap = SnapshotChange (SnapshotHeld s snap) ∷ []
held_first (Some old) s snap = []

abbrev pub held : History → (session cmd : ℕ) → List Event
held h s cmd = held_first (held_by (snapshot_events h) s) s (look_of h s cmd)
