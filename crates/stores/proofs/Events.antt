-- Each event of sessions may come.
use Rattle.std.proofs.Common.{◌≡◌, ℕ, ◌∷◌, ◌++◌, refl, sym, ap, subst, ◌∙◌, Some, None, Option}
use Rattle.pg_values.specs.declared.ids.TableNo.{TableNo}
use Rattle.pg_values.specs.declared.lock_mode.LockMode.{LockMode}
use Rattle.history.specs.declared.wait.WaitOn.{WaitOn}
use Rattle.history.specs.declared.wait.Wanted.TheVariants.{Lock, Others}
use Rattle.history.specs.Transactions.{TxEvent, TxCommitted, TxAborted, open_of, IsRunning, IsSound}
use Rattle.history.specs.Snapshots.{TakenSnapshot, SnapshotHeld, SnapshotDropped, held_by}
use Rattle.history.specs.Locks.{LockEvent, LockGot, LocksGivenUp, SnapshotGone, WaitBegan, WaitResumed, WaitWithdrawn}
use Rattle.history.specs.LocksSound.{IsLockSound}
use Rattle.history.specs.Waits.{ready}
use Rattle.history.specs.History.{History, TxChange, SnapshotChange, LockChange, tx_events, snapshot_events, lock_events, catalogue_events}
use Rattle.history.specs.Legal.{MayHold, IsInOrder}
use Rattle.history.proofs.Open.{open_runs}
use Rattle.soundness.proofs.Sound.{sound_of}
use Rattle.soundness.specs.Parts.{IsKnown}
use Rattle.soundness.specs.Legal.{IsPermitted}
use Rattle.lock_table.specs.declared.asked.Asked.{Asked}
use Rattle.lock_table.specs.declared.asked.Asked.TheVariants.{Granted, Waits, Deadlock}
use Rattle.lock_table.specs.Answers.{after}
use Rattle.lock_table.specs.Kept.{KeptLocks}
use Rattle.lock_table.specs.Stands.{TableStands}
use Rattle.stores.specs.Events.{let_go, withdrawn, resumed, ended, look_of, held_first, held}
use Rattle.stores.specs.Good.{IsReleased, IsGood}
use Rattle.stores.specs.Numbers.{IsAt}
use Rattle.stores.proofs.Goodness.{legal_of, none_in_order, if_self}
use Rattle.stores.proofs.Commands.{look_is_own, look_may_be_held, commands_are_in_order}

pub lock_good : (e : LockEvent) (h : History) → IsLockSound e (lock_events h) → IsPermitted (LockChange e) h → IsGood h → IsGood (LockChange e ∷ h)
lock_good e h sound permitted good = (record { legal = sound; in_order = none_in_order h; permitted = permitted; acting = tt; released = tt; housed = tt }, good)

pub tx_good : (e : TxEvent) (h : History) → IsSound (e ∷ tx_events h) → IsReleased (TxChange e) h → IsGood h → IsGood (TxChange e ∷ h)
tx_good e h sound released good = (record { legal = sound; in_order = none_in_order h; permitted = tt; acting = tt; released = released; housed = tt }, good)

pub dropped_good : (s : ℕ) (h : History) → IsGood h → IsGood (SnapshotChange (SnapshotDropped s) ∷ h)
dropped_good s h good = (record { legal = tt; in_order = none_in_order h; permitted = tt; acting = tt; released = tt; housed = tt }, good)

pub let_go_good : (s : ℕ) (h : History) → IsGood h → IsGood (let_go s ++ h)
let_go_good s h good = lock_good (SnapshotGone s) (SnapshotChange (SnapshotDropped s) ∷ h) tt tt (dropped_good s h good)

pub withdrawn_good : (s : ℕ) (h : History) → IsGood h → IsGood (withdrawn s ++ h)
withdrawn_good s h good = lock_good (WaitWithdrawn s) h tt tt good

pub resumed_good : (s : ℕ) (h : History) → ready (lock_events h) ≡ Some s → IsGood h → IsGood (resumed s ++ h)
resumed_good s h is good = lock_good (WaitResumed s) h is tt good

-- what comes before a transaction's end
pub quiet_good : (s : ℕ) (h : History) → IsGood h → IsGood ((let_go s ++ withdrawn s) ++ h)
quiet_good s h good = let_go_good s (withdrawn s ++ h) (withdrawn_good s h good)

pub committed_good : (s t : ℕ) (h : History) → IsSound (TxCommitted s t ∷ tx_events h) → IsGood h → IsGood (ended (TxCommitted s t) s ++ h)
committed_good s t h sound good =
    lock_good (LocksGivenUp s) (TxChange (TxCommitted s t) ∷ ((let_go s ++ withdrawn s) ++ h)) tt (if_self s None (open_of (tx_events h) s))
    (tx_good (TxCommitted s t) ((let_go s ++ withdrawn s) ++ h) sound (if_self s None (held_by (snapshot_events h) s)) (quiet_good s h good))

pub aborted_good : (s t : ℕ) (h : History) → IsSound (TxAborted s t ∷ tx_events h) → IsGood h → IsGood (ended (TxAborted s t) s ++ h)
aborted_good s t h sound good =
    lock_good (LocksGivenUp s) (TxChange (TxAborted s t) ∷ ((let_go s ++ withdrawn s) ++ h)) tt (if_self s None (open_of (tx_events h) s))
    (tx_good (TxAborted s t) ((let_go s ++ withdrawn s) ++ h) sound (if_self s None (held_by (snapshot_events h) s)) (quiet_good s h good))

-- a lock that is asked for; a wait for others
pub request_good : (k : KeptLocks) (s : ℕ) (table : TableNo) (mode : LockMode) (a : Asked) (h : History) → TableStands k (after s (Lock table mode) a h) → IsKnown (tx_events h) (catalogue_events h) s table.number → IsGood h → IsGood (after s (Lock table mode) a h)
request_good k s table mode Granted h st known good = lock_good (LockGot s table.number mode) h st.sound.0 known good
request_good k s table mode (Waits behind) h st known good = lock_good (WaitBegan s (Lock table mode)) h st.sound.0 known good
request_good k s table mode (Deadlock cycle) h st known good = good

pub wait_good : (k : KeptLocks) (s : ℕ) (what : WaitOn) (a : Asked) (h : History) → TableStands k (after s (Others what) a h) → IsGood h → IsGood (after s (Others what) a h)
wait_good k s what Granted h st good = good
wait_good k s what (Waits behind) h st good = lock_good (WaitBegan s (Others what)) h st.sound.0 tt good
wait_good k s what (Deadlock cycle) h st good = good

-- the snapshot under which a command reads is held
holding_good : (s t cmd : ℕ) (look : TakenSnapshot) (h : History) → IsSound (tx_events h) → look.tx ≡ t → look.cmd ≡ cmd → MayHold (SnapshotHeld s look) h → IsInOrder (Some (t, cmd)) h → open_of (tx_events h) s ≡ Some t → IsGood h → (o : Option TakenSnapshot) → IsGood (held_first o s look ++ h)
holding_good s t cmd look h sound own number may order opened good None =
    let runs : IsRunning (tx_events h) t = open_runs (tx_events h) s t sound opened in (
      record {
        legal = may;
        in_order = subst (λ (c : ℕ × ℕ). IsInOrder (Some c) h) (sym (ap (λ (x : ℕ). (x, look.cmd)) own ∙ ap (λ (n : ℕ). (t, n)) number)) order;
        permitted = tt;
        acting = subst (λ (x : ℕ). IsRunning (tx_events h) x) (sym own) runs;
        released = tt;
        housed = tt;
      },
      good,
    )
holding_good s t cmd look h sound own number may order opened good (Some old) = good

pub held_good : (s t cmd : ℕ) (h : History) → open_of (tx_events h) s ≡ Some t → IsAt h s cmd → IsGood h → IsGood (held h s cmd ++ h)
held_good s t cmd h opened at good =
    holding_good s t cmd (look_of h s cmd) h (sound_of h (legal_of h good)) (look_is_own h s t cmd good opened) refl (look_may_be_held h s t cmd good at opened) (commands_are_in_order h s t cmd at opened) opened good (held_by (snapshot_events h) s)
