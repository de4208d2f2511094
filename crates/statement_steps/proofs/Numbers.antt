-- The numbers of commands go on, whatever happens to transactions and locks.
use Rattle.std.proofs.Common.{◌≡◌, ◌+◌, ◌≢◌, ℕ, [], ◌∷◌, ◌++◌, refl, sym, ◌∙◌, arith, inl, inr, None}
use Rattle.std.proofs.lemmas.Grind.{common_steps}
use Rattle.std.proofs.lemmas.Bool.{cases_eq}
use Rattle.std.proofs.lemmas.Bool.Decides.{nat_tests}
use Rattle.std.proofs.lemmas.List.Elements.{All-nil, All-cons}
use Rattle.history.specs.Transactions.{TxEvent, TxEvents, TxBegan, TxCommitted, TxAborted, next_tx, open_of}
use Rattle.history.specs.Snapshots.{SnapshotDropped}
use Rattle.history.specs.Locks.{LockEvent, LocksGivenUp, SnapshotGone, WaitWithdrawn}
use Rattle.history.specs.History.{History, TxChange, SnapshotChange, LockChange, tx_events}
use Rattle.stores.specs.Events.{begun, ended}
use Rattle.stores.specs.Numbers.{IsBefore, IsAt}
use Rattle.stores.proofs.Commands.{goes_on}

pub at_lock : (e : LockEvent) (h : History) (r n : ℕ) → IsAt h r n → IsAt (LockChange e ∷ h) r n
at_lock e h r n at = goes_on (LockChange e ∷ []) h r n n (omega arith) at refl (λ t own. All-cons (IsBefore t n) (LockChange e) [] tt (All-nil (IsBefore t n)))

pub at_dropped : (s : ℕ) (h : History) (r n : ℕ) → IsAt h r n → IsAt (SnapshotChange (SnapshotDropped s) ∷ h) r n
at_dropped s h r n at = goes_on (SnapshotChange (SnapshotDropped s) ∷ []) h r n n (omega arith) at refl (λ t own. All-cons (IsBefore t n) (SnapshotChange (SnapshotDropped s)) [] tt (All-nil (IsBefore t n)))

-- an event of another session's transaction
at_tx : (e : TxEvent) (h : History) (r n : ℕ) → open_of (e ∷ tx_events h) r ≡ open_of (tx_events h) r → IsAt h r n → IsAt (TxChange e ∷ h) r n
at_tx e h r n same at = goes_on (TxChange e ∷ []) h r n n (omega arith) at same (λ t own. All-cons (IsBefore t n) (TxChange e) [] tt (All-nil (IsBefore t n)))

open_began : (txs : TxEvents) (s t r : ℕ) → s ≢ r → open_of (TxBegan s t ∷ txs) r ≡ open_of txs r
open_began txs s t r other = grind (arith, common_steps, nat_tests, other)

pub at_begun : (h : History) (s r n : ℕ) → s ≢ r → IsAt h r n → IsAt (begun h s ++ h) r n
at_begun h s r n other at = at_tx (TxBegan s (next_tx (tx_events h))) h r n (open_began (tx_events h) s (next_tx (tx_events h)) r other) at

-- no transaction is open, or what is open stays so
pub data Ends (e : TxEvent) (txs : TxEvents) (r : ℕ) : Type 0 where
  Own : open_of (e ∷ txs) r ≡ None → Ends e txs r
  Other : open_of (e ∷ txs) r ≡ open_of txs r → Ends e txs r

at_end : (e : TxEvent) (h : History) (r n : ℕ) → Ends e (tx_events h) r → IsAt h r n → IsAt (TxChange e ∷ h) r n
at_end e h r n (Own none) at = λ t own. absurd (let c = sym none ∙ own in cc)
at_end e h r n (Other same) at = at_tx e h r n same at

pub at_ended : (e : TxEvent) (h : History) (s r n : ℕ) → Ends e (tx_events h) r → IsAt h r n → IsAt (ended e s ++ h) r n
at_ended e h s r n ends at =
    let one : History = LockChange (WaitWithdrawn s) ∷ h in
    let two : History = SnapshotChange (SnapshotDropped s) ∷ one in
    let three : History = LockChange (SnapshotGone s) ∷ two in
    at_lock (LocksGivenUp s) (TxChange e ∷ three) r n (at_end e three r n ends (at_lock (SnapshotGone s) two r n (at_dropped s one r n (at_lock (WaitWithdrawn s) h r n at))))

pub ends_commit : (txs : TxEvents) (s t r : ℕ) → Ends (TxCommitted s t) txs r
ends_commit txs s t r = elim (cases_eq s r) [ inl e ↦ Own (grind (arith, common_steps, nat_tests, e)) | inr e ↦ Other (grind (arith, common_steps, nat_tests, e)) ]

pub ends_abort : (txs : TxEvents) (s t r : ℕ) → Ends (TxAborted s t) txs r
ends_abort txs s t r = elim (cases_eq s r) [ inl e ↦ Own (grind (arith, common_steps, nat_tests, e)) | inr e ↦ Other (grind (arith, common_steps, nat_tests, e)) ]

-- a command later
pub one_later : (h : History) (s n : ℕ) → IsAt h s n → IsAt h s (n + 1)
one_later h s n at = goes_on [] h s n (n + 1) (omega arith) at refl (λ t own. All-nil (IsBefore t (n + 1)))
