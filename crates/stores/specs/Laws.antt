-- What holds of every good history.
use Rattle.std.specs.Prelude.{◌≡◌, ◌≢◌, ◌≤◌, ◌<◌, ℕ, ◌∷◌, ◌++◌, Some, All, length}
use Rattle.pg_values.specs.declared.ids.LeafId.{LeafId}
use Rattle.history.specs.Transactions.{open_of}
use Rattle.history.specs.Rows.{leaf_count}
use Rattle.history.specs.Snapshots.{TakenSnapshot, SnapshotHeld, held_by}
use Rattle.history.specs.Locks.{LockEvent}
use Rattle.history.specs.History.{History, LockChange, tx_events, snapshot_events, row_events, catalogue_events}
use Rattle.history.specs.Legal.{MayHold, IsInOrder, IsLegal}
use Rattle.soundness.specs.Legal.{ArePermitted}
use Rattle.soundness.specs.Worlds.{HasLeaf}
use Rattle.soundness.specs.Laws.{IsLooking}
use Rattle.part_catalog.specs.Answers.{AreTogether}
use Rattle.stores.specs.declared.stores.Stores.{Stores}
use Rattle.stores.specs.Events.{begun, committed, aborted, let_go, look_of, held}
use Rattle.stores.specs.Good.{IsGood}
use Rattle.stores.specs.Numbers.{IsBefore, IsAt}
use Rattle.stores.specs.Stand.{Stands}

-- it is legal and permitted: so the invariant of soundness holds of it
abbrev pub GoodIsLegal : Type 0
GoodIsLegal = (h : History) → IsGood h → IsLegal h × ArePermitted h

-- a snapshot that is held is of its session's open transaction
abbrev pub HeldIsOwn : Type 0
HeldIsOwn = (h : History) (session : ℕ) (s : TakenSnapshot) → IsGood h → held_by (snapshot_events h) session ≡ Some s → open_of (tx_events h) session ≡ Some s.tx

-- a transaction that begins comes to its command 0
abbrev pub BeginsAtZero : Type 0
BeginsAtZero = (h : History) (session : ℕ) → IsGood h → IsAt (begun h session ++ h) session 0

-- it comes to a command, or a later one, where what came since was done by others or by earlier commands
abbrev pub GoesOn : Type 0
GoesOn = (events h : History) (session cmd next : ℕ) → cmd ≤ next → IsAt h session cmd → open_of (tx_events (events ++ h)) session ≡ open_of (tx_events h) session
    → ((t : ℕ) → open_of (tx_events h) session ≡ Some t → All (IsBefore t next) events) → IsAt (events ++ h) session next

-- it comes to the same command whatever is locked and waited for meanwhile,
abbrev pub LocksKeepNumbers : Type 0
LocksKeepNumbers = (e : LockEvent) (h : History) (session cmd : ℕ) → IsAt h session cmd → IsAt (LockChange e ∷ h) session cmd

-- whatever transactions of other sessions begin and end,
pub record OtherBeginsAndEnds (h : History) (other session cmd : ℕ) : Type 0 where
  pub begun : IsAt (begun h other ++ h) session cmd
  pub committed : IsAt (committed h other ++ h) session cmd
  pub aborted : IsAt (aborted h other ++ h) session cmd

abbrev pub OthersKeepNumbers : Type 0
OthersKeepNumbers = (h : History) (other session cmd : ℕ) → other ≢ session → IsAt h session cmd → OtherBeginsAndEnds h other session cmd

-- and whatever snapshots are given up and held, its own for no later command
abbrev pub LooksKeepNumbers : Type 0
LooksKeepNumbers = (h : History) (holder session tx number cmd : ℕ) → IsGood h → IsAt h session cmd → open_of (tx_events h) holder ≡ Some tx → (holder ≡ session → number ≤ cmd)
    → IsAt (let_go holder ++ h) session cmd × IsAt (held h holder number ++ h) session cmd

-- to hold a snapshot changes nothing of what the session reads under
abbrev pub HoldingKeepsLooks : Type 0
HoldingKeepsLooks = (h : History) (session number cmd : ℕ) → look_of (held h session number ++ h) session cmd ≡ look_of h session cmd

-- the snapshot under which a command of the transaction reads: it is of that transaction, the session may hold it, and the
-- laws of soundness speak of what it shows
pub record IsOpenLook (h : History) (session t : ℕ) (s : TakenSnapshot) : Type 0 where
  pub own : s.tx ≡ t
  pub may_be_held : MayHold (SnapshotHeld session s) h
  pub looking : IsLooking h session s

abbrev pub LooksAreOpen : Type 0
LooksAreOpen = (h : History) (session t cmd : ℕ) → IsGood h → IsAt h session cmd → open_of (tx_events h) session ≡ Some t → IsOpenLook h session t (look_of h session cmd)

-- and the command has no smaller number than those before it
abbrev pub CommandsAreInOrder : Type 0
CommandsAreInOrder = (h : History) (session t cmd : ℕ) → IsAt h session cmd → open_of (tx_events h) session ≡ Some t → IsInOrder (Some (t, cmd)) h

-- the entries that are present for a session stand together: what the catalogue asks where it makes a tree
abbrev pub TreesAreTogether : Type 0
TreesAreTogether = (stores : Stores) (h : History) (session : ℕ) → Stands stores h → AreTogether stores.txs stores.catalog session

-- the leaf of each table was added
abbrev pub LeavesAreHoused : Type 0
LeavesAreHoused = (h : History) (x : ℕ) (leaf : LeafId) → IsGood h → HasLeaf (catalogue_events h) x leaf → leaf.number < leaf_count (row_events h)

-- there are 4,096 tables at most, dropped ones too
abbrev pub TablesAreFew : Type 0
TablesAreFew = (stores : Stores) (h : History) → Stands stores h → length stores.catalog.tables ≤ 4096
