-- A transaction comes to the same command, whatever comes meanwhile.
use Rattle.std.proofs.Common.{◌≡◌, ◌≢◌, ◌≤◌, ℕ, arith, ◌==◌, false, if◌then◌else◌, ◌∷◌, ◌++◌, refl, sym, ap, ◌∙◌, Option, Some, None}
use Rattle.std.proofs.lemmas.Bool.Decides.{nat_tests}
use Rattle.std.proofs.lemmas.List.Elements.{All-cons}
use Rattle.history.specs.Transactions.{TxEvent, TxBegan, TxCommitted, TxAborted, next_tx, open_of, session_of, IsSound}
use Rattle.history.specs.Snapshots.{TakenSnapshot, SnapshotHeld, SnapshotDropped, held_by}
use Rattle.history.specs.Locks.{LockEvent, LocksGivenUp, SnapshotGone, WaitWithdrawn}
use Rattle.history.specs.History.{History, TxChange, SnapshotChange, LockChange, tx_events, snapshot_events, fresh, held_or_fresh}
use Rattle.history.proofs.Open.{open_own}
use Rattle.soundness.proofs.Sound.{sound_of}
use Rattle.stores.specs.Events.{tx_in, let_go, withdrawn, ended, with_command, look_of, held_first, held}
use Rattle.stores.specs.Good.{IsGood}
use Rattle.stores.specs.Numbers.{IsBefore, IsAt}
use Rattle.stores.specs.Laws.{OtherBeginsAndEnds}
use Rattle.stores.proofs.Goodness.{legal_of, if_self}
use Rattle.stores.proofs.Commands.{look_is_own}

pub locks_keep_numbers : (e : LockEvent) (h : History) (session cmd : ℕ) → IsAt h session cmd → IsAt (LockChange e ∷ h) session cmd
locks_keep_numbers e h session cmd at t own = All-cons (IsBefore t cmd) (LockChange e) h tt (at t own)

dropped_keeps : (r : ℕ) (h : History) (session cmd : ℕ) → IsAt h session cmd → IsAt (SnapshotChange (SnapshotDropped r) ∷ h) session cmd
dropped_keeps r h session cmd at t own = All-cons (IsBefore t cmd) (SnapshotChange (SnapshotDropped r)) h tt (at t own)

pub let_go_keeps : (r : ℕ) (h : History) (session cmd : ℕ) → IsAt h session cmd → IsAt (let_go r ++ h) session cmd
let_go_keeps r h session cmd at = locks_keep_numbers (SnapshotGone r) (SnapshotChange (SnapshotDropped r) ∷ h) session cmd (dropped_keeps r h session cmd at)

-- ---- transactions of others

other_open : (r s : ℕ) (new old : Option ℕ) → r ≢ s → (if r == s then new else old) ≡ old
other_open r s new old other = let away : (r == s) ≡ false = grind (arith, nat_tests) in rw away refl

tx_keeps : (e : TxEvent) (h : History) (session cmd : ℕ) → open_of (e ∷ tx_events h) session ≡ open_of (tx_events h) session → IsAt h session cmd → IsAt (TxChange e ∷ h) session cmd
tx_keeps e h session cmd same at t own = All-cons (IsBefore t cmd) (TxChange e) h tt (at t (sym same ∙ own))

ended_keeps : (e : TxEvent) (r : ℕ) (h : History) (session cmd : ℕ) → open_of (e ∷ tx_events h) session ≡ open_of (tx_events h) session → IsAt h session cmd → IsAt (ended e r ++ h) session cmd
ended_keeps e r h session cmd same at =
    let g : History = (let_go r ++ withdrawn r) ++ h in
    let quiet : IsAt g session cmd = let_go_keeps r (withdrawn r ++ h) session cmd (locks_keep_numbers (WaitWithdrawn r) h session cmd at) in
    locks_keep_numbers (LocksGivenUp r) (TxChange e ∷ g) session cmd (tx_keeps e g session cmd same quiet)

pub others_keep_numbers : (h : History) (other session cmd : ℕ) → other ≢ session → IsAt h session cmd → OtherBeginsAndEnds h other session cmd
others_keep_numbers h other session cmd away at = record {
  begun = tx_keeps (TxBegan other (next_tx (tx_events h))) h session cmd (other_open other session (Some (next_tx (tx_events h))) (open_of (tx_events h) session) away) at;
  committed = ended_keeps (TxCommitted other (tx_in h other)) other h session cmd (other_open other session None (open_of (tx_events h) session) away) at;
  aborted = ended_keeps (TxAborted other (tx_in h other)) other h session cmd (other_open other session None (open_of (tx_events h) session) away) at;
}

-- ---- snapshots that are held

holding_keeps : (o : Option TakenSnapshot) (r : ℕ) (look : TakenSnapshot) (h : History) (session cmd : ℕ) → ((t : ℕ) → open_of (tx_events h) session ≡ Some t → look.tx ≡ t → look.cmd ≤ cmd) → IsAt h session cmd → IsAt (held_first o r look ++ h) session cmd
holding_keeps None r look h session cmd before at t own = All-cons (IsBefore t cmd) (SnapshotChange (SnapshotHeld r look)) h (before t own) (at t own)
holding_keeps (Some old) r look h session cmd before at t own = at t own

-- two sessions with one transaction are one
one_session : (h : History) (r s u t : ℕ) → IsSound (tx_events h) → open_of (tx_events h) r ≡ Some u → open_of (tx_events h) s ≡ Some t → u ≡ t → r ≡ s
one_session h r s u t sound mine its same = sym (open_own (tx_events h) r u sound mine) ∙ (ap (session_of (tx_events h)) same ∙ open_own (tx_events h) s t sound its)

pub looks_keep_numbers : (h : History) (holder session tx number cmd : ℕ) → IsGood h → IsAt h session cmd → open_of (tx_events h) holder ≡ Some tx → (holder ≡ session → number ≤ cmd)
    → IsAt (let_go holder ++ h) session cmd × IsAt (held h holder number ++ h) session cmd
looks_keep_numbers h holder session tx number cmd good at mine before =
    let own : (look_of h holder number).tx ≡ tx = look_is_own h holder tx number good mine in (
      let_go_keeps holder h session cmd at,
      holding_keeps (held_by (snapshot_events h) holder) holder (look_of h holder number) h session cmd
          (λ (t : ℕ) (its : open_of (tx_events h) session ≡ Some t) (same : (look_of h holder number).tx ≡ t). before (one_session h holder session tx t (sound_of h (legal_of h good)) mine its (sym own ∙ same))) at,
    )

-- ---- what the session reads under

held_look : (o : Option TakenSnapshot) (h : History) (s number cmd : ℕ) → held_by (snapshot_events h) s ≡ o → look_of (held_first o s (with_command number (held_or_fresh o (tx_events h) s)) ++ h) s cmd ≡ with_command cmd (held_or_fresh o (tx_events h) s)
held_look None h s number cmd none =
    let look : TakenSnapshot = with_command number (fresh (tx_events h) s) in
    ap (λ (o : Option TakenSnapshot). with_command cmd (held_or_fresh o (tx_events h) s)) (if_self s (Some look) (held_by (snapshot_events h) s))
held_look (Some old) h s number cmd some = ap (λ (o : Option TakenSnapshot). with_command cmd (held_or_fresh o (tx_events h) s)) some

pub holding_keeps_looks : (h : History) (session number cmd : ℕ) → look_of (held h session number ++ h) session cmd ≡ look_of h session cmd
holding_keeps_looks h session number cmd = held_look (held_by (snapshot_events h) session) h session number cmd refl
