-- The numbers of a transaction's commands: by which of them it did what it did.
use Rattle.std.specs.Prelude.{◌≡◌, ℕ, ◌<◌, ◌≤◌, Option, Some, None, All}
use Rattle.history.specs.Transactions.{open_of}
use Rattle.history.specs.Snapshots.{SnapshotHeld}
use Rattle.history.specs.History.{Event, History, SnapshotChange, tx_events}
use Rattle.history.specs.Legal.{command_of}

-- a command of the transaction has a smaller number
abbrev pub IsEarlier : (tx cmd : ℕ) → Option (ℕ × ℕ) → Type 0
IsEarlier tx cmd None = Unit {0}
IsEarlier tx cmd (Some c) = c.0 ≡ tx → c.1 < cmd

-- what the transaction did by the event, it did by an earlier command; it may hold a snapshot for that command
abbrev pub IsBefore : (tx cmd : ℕ) → Event → Type 0
IsBefore tx cmd (SnapshotChange (SnapshotHeld r s)) = s.tx ≡ tx → s.cmd ≤ cmd
IsBefore tx cmd e = IsEarlier tx cmd (command_of e)

-- the session's open transaction comes to its command of that number: a snapshot with the number sees all that it did, and the
-- command may change what it likes
abbrev pub IsAt : History → (session cmd : ℕ) → Type 0
IsAt h session cmd = (t : ℕ) → open_of (tx_events h) session ≡ Some t → All (IsBefore t cmd) h
