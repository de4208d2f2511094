-- What holds of every history.
use Rattle.std.specs.Prelude.{◌≡◌, ◌≢◌, ℕ, ◌==◌, ◌&&◌, nat_lt, Bool, true, false, if◌then◌else◌, [], ◌∷◌, ◌++◌, ◌⊎◌, Some, Contains}
use Rattle.history.specs.declared.transaction.Fate.TheVariants.{Committed}
use Rattle.history.specs.declared.version.Version.{Version}
use Rattle.history.specs.declared.version.End.{End}
use Rattle.history.specs.Transactions.{TxAborted, fate, was_aborted, is_committed, IsSound, IsPast}
use Rattle.history.specs.Snapshots.{TakenSnapshot, held_by}
use Rattle.history.specs.Rows.{RowBorn, RowEnded}
use Rattle.history.specs.History.{Event, History, TxChange, RowChange, tx_events, snapshot_events, versions, end_of, sees_end, is_seen, seen}
use Rattle.history.specs.Legal.{IsLegal}
use Rattle.pg_values.specs.Modes.{conflicts}
use Rattle.pg_values.specs.declared.lock_mode.LockMode.{LockMode}
use Rattle.history.specs.Locks.{LockEvents, holds}
use Rattle.history.specs.LocksSound.{AreLocksSound}

-- a version of a transaction that had committed is shown to each snapshot taken since, until that sees an
-- end of it
abbrev pub CommittedStaysSeen : Type 0
CommittedStaysSeen = (earlier later : History) (s : TakenSnapshot) (v : Version) → IsSound (tx_events (later ++ earlier)) → IsPast (tx_events earlier) s.past → IsPast s.past (tx_events (later ++ earlier))
    → Contains (versions earlier) v → fate (tx_events earlier) v.by.number ≡ Committed
    → Contains (seen (later ++ earlier) v.leaf.number s) v ⊎ (sees_end (tx_events (later ++ earlier)) s (end_of (later ++ earlier) v.id.number) ≡ true)

-- two snapshots of one transaction and command before which the same was committed see the same
abbrev pub AlikeSeeAlike : Type 0
AlikeSeeAlike = (h : History) (leaf : ℕ) (a b : TakenSnapshot) → a.tx ≡ b.tx → a.cmd ≡ b.cmd → ((t : ℕ) → is_committed (fate a.past t) ≡ is_committed (fate b.past t)) → seen h leaf a ≡ seen h leaf b

-- the event is of a row version and was made by the transaction
abbrev pub is_row_change_by : ℕ → Event → Bool
is_row_change_by t (RowChange (RowBorn v)) = v.by.number == t
is_row_change_by t (RowChange (RowEnded k e)) = e.by.number == t
is_row_change_by t _ = false

-- the history without what the transaction did to row versions
abbrev pub without : ℕ → History → History
without t [] = []
without t (e ∷ h) = if is_row_change_by t e then without t h else e ∷ without t h

-- what an aborted transaction did is seen by nobody else: they see what they would without it
abbrev pub AbortUndoes : Type 0
AbortUndoes = (h : History) (leaf t : ℕ) (s : TakenSnapshot) → IsSound (tx_events h) → IsPast s.past (tx_events h) → was_aborted (tx_events h) t ≡ true → s.tx ≢ t → seen h leaf s ≡ seen (without t h) leaf s

-- the event is the abort of the snapshot's transaction, or a change of rows by one of its commands that the
-- snapshot sees
abbrev pub alters : TakenSnapshot → Event → Bool
alters s (TxChange (TxAborted r t)) = t == s.tx
alters s (RowChange (RowBorn v)) = (v.by.number == s.tx) && nat_lt v.cmd s.cmd
alters s (RowChange (RowEnded k e)) = (e.by.number == s.tx) && nat_lt e.cmd s.cmd
alters s _ = false

-- what a snapshot sees of a leaf stays the same under every other event: whatever others do, and what its
-- own transaction does by the snapshot's command and later ones
abbrev pub OthersChangeNothing : Type 0
OthersChangeNothing = (e : Event) (h : History) (leaf : ℕ) (s : TakenSnapshot) → IsLegal (e ∷ h) → IsPast s.past (tx_events h) → alters s e ≡ false → seen (e ∷ h) leaf s ≡ seen h leaf s

-- a snapshot that is held was taken at some place of the history
abbrev pub HeldWasTaken : Type 0
HeldWasTaken = (h : History) (session : ℕ) (s : TakenSnapshot) → IsLegal h → held_by (snapshot_events h) session ≡ Some s → IsPast s.past (tx_events h)

-- where a snapshot sees a version, the end that it got was not committed at any earlier place: the snapshots
-- that see it all stand on one side of its end
abbrev pub SeenBeforeItsEnd : Type 0
SeenBeforeItsEnd = (h : History) (v : Version) (e : End) (early late : TakenSnapshot) → IsSound (tx_events h) → IsPast early.past late.past → IsPast late.past (tx_events h)
    → end_of h v.id.number ≡ Some e → is_seen h late v ≡ true → is_committed (fate early.past e.by.number) ≡ false

-- two sessions never hold conflicting modes on one table
abbrev pub NoTwoConflict : Type 0
NoTwoConflict = (h : LockEvents) (x y t : ℕ) (a b : LockMode) → AreLocksSound h → x ≢ y → holds h x t a ≡ true → holds h y t b ≡ true → conflicts a b ≡ false
