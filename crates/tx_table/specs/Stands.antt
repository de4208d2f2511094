-- When a snapshot, or a table, stands for what happened.
use Rattle.std.specs.Prelude.{◌≡◌, ℕ, ◌≤◌, ◌<◌, ◌≢◌, ◌==◌, ◌&&◌, ◌||◌, not, nat_lt, Bool, true, false, ◌⊎◌, Option, Some, None, length, slice_index_or, slice_set}
use Rattle.std.specs.List.{list_any}
use Rattle.history.specs.declared.transaction.Fate.{Fate}
use Rattle.history.specs.declared.transaction.Fate.TheVariants.{Running}
use Rattle.history.specs.Transactions.{TxEvents, fate, open_of, next_tx, session_of, IsSound, IsPast, is_committed}
use Rattle.history.specs.Snapshots.{SnapshotEvents, TakenSnapshot, held_by}
use Rattle.history.specs.History.{History, tx_events, snapshot_events}
use Rattle.tx_table.specs.Kept.{KeptTable, KeptSnapshot, taken_now, with_number}

-- what is kept tells, of each transaction, whether it ran at the snapshot's place
pub record SnapshotStands (kept : KeptSnapshot) (s : TakenSnapshot) : Type 0 where
  pub own : kept.tx ≡ s.tx
  pub number : kept.cmd ≡ s.cmd
  pub session : kept.session ≡ session_of s.past s.tx
  pub later : (tx : ℕ) → kept.next ≤ tx → fate s.past tx ≡ Running
  pub ran : (tx : ℕ) → list_any (λ t. t == tx) kept.running ≡ true → fate s.past tx ≡ Running
  pub ended : (tx : ℕ) → tx < kept.next → list_any (λ t. t == tx) kept.running ≡ false → fate s.past tx ≢ Running

-- of a held snapshot: it is the one that the history says, and was taken at some place of it
abbrev pub HeldStands : Option KeptSnapshot → Option TakenSnapshot → TxEvents → Type 0
HeldStands None None txs = Unit {0}
HeldStands None (Some s) txs = ⊥
HeldStands (Some k) None txs = ⊥
HeldStands (Some k) (Some s) txs = SnapshotStands k s × IsPast s.past txs

pub record StandsFor (kept : KeptTable) (txs : TxEvents) (snaps : SnapshotEvents) : Type 0 where
  pub sound : IsSound txs
  pub count : length kept.fates ≡ next_tx txs
  pub owners : (tx : ℕ) → slice_index_or kept.owners tx 0 ≡ session_of txs tx
  pub fates : (tx : ℕ) → slice_index_or kept.fates tx Running ≡ fate txs tx
  pub current : (s : ℕ) → slice_index_or kept.current s None ≡ open_of txs s
  pub held : (s : ℕ) → HeldStands (slice_index_or kept.held s None) (held_by snaps s) txs

-- the table stands for the history
abbrev pub TableStands : KeptTable → History → Type 0
TableStands kept h = StandsFor kept (tx_events h) (snapshot_events h)

-- the transaction is open in some session
abbrev pub IsOpen : KeptTable → ℕ → Type 0
IsOpen kept tx = (s : ℕ) × (slice_index_or kept.current s None ≡ Some tx)

-- the snapshot is the held one, with whatever command number
abbrev pub IsAgain : Option KeptSnapshot → KeptSnapshot → Type 0
IsAgain None snap = ⊥
IsAgain (Some old) snap = snap ≡ with_number snap.cmd old

-- the session may hold the snapshot: it is of its open transaction, and was taken at this moment or is the
-- one that it holds
pub record MayBeHeld (kept : KeptTable) (session : ℕ) (snap : KeptSnapshot) : Type 0 where
  pub own : slice_index_or kept.current session None ≡ Some snap.tx
  pub timely : (snap ≡ with_number snap.cmd (taken_now kept session snap.tx)) ⊎ IsAgain (slice_index_or kept.held session None) snap

-- the transaction sees now what the other one did, told from what is kept
abbrev pub sees_now_by : KeptTable → ℕ → ℕ → Bool
sees_now_by kept me tx = is_committed (slice_index_or kept.fates tx Running) || (tx == me)

-- a snapshot with its command number set stands for the same place with that number
abbrev pub NumberIsSet : Type 0
NumberIsSet = (snap : KeptSnapshot) (s : TakenSnapshot) (cmd : ℕ) → SnapshotStands snap s → SnapshotStands (with_number cmd snap) (record { past = s.past; tx = s.tx; cmd = cmd })

-- whether the snapshot sees what a command of the transaction did, told from what is kept
abbrev pub sees_by : KeptTable → KeptSnapshot → ℕ → ℕ → Bool
sees_by kept snap tx cmd = (is_committed (slice_index_or kept.fates tx Running) && (nat_lt tx snap.next && not (list_any (λ t. t == tx) snap.running))) || ((tx == snap.tx) && nat_lt cmd snap.cmd)

-- an open transaction is known, is the session's own, and runs
pub record OpenIs (kept : KeptTable) (s tx : ℕ) : Type 0 where
  pub known : tx < length kept.fates
  pub own : slice_index_or kept.owners tx 0 ≡ s
  pub runs : slice_index_or kept.fates tx Running ≡ Running

-- what is always so of a table: just the transactions that run are open
pub record IsKept (kept : KeptTable) : Type 0 where
  pub both : length kept.owners ≡ length kept.fates
  pub seats : length kept.held ≡ length kept.current
  pub few : length kept.current ≤ 65
  pub each : (s tx : ℕ) → slice_index_or kept.current s None ≡ Some tx → OpenIs kept s tx
  pub all : (tx : ℕ) → tx < length kept.fates → slice_index_or kept.fates tx Running ≡ Running → slice_index_or kept.current (slice_index_or kept.owners tx 0) None ≡ Some tx

-- what is kept after the transaction ended
abbrev pub after_end : KeptTable → ℕ → Fate → KeptTable
after_end kept tx f = record { owners = kept.owners; fates = slice_set kept.fates tx f; current = slice_set kept.current (slice_index_or kept.owners tx 0) None; held = kept.held }
