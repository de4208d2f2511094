-- A version that a transaction has ended which runs: that transaction is seat in its session.
use Rattle.std.proofs.Common.{◌≡◌, ℕ, ◌<◌, ◌==◌, ◌&&◌, not, Bool, true, false, if◌then◌else◌, [], ◌∷◌, Option, Some, None, refl, sym, ap, ◌∙◌, arith}
use Rattle.history.specs.declared.transaction.Fate.TheVariants.{Running, Committed, Aborted}
use Rattle.history.specs.declared.transaction.Fate.{Fate}
use Rattle.history.specs.declared.version.End.{End}
use Rattle.history.specs.Transactions.{TxEvents, next_tx, open_of, session_of, fate, was_aborted, IsSound}
use Rattle.history.specs.Rows.{LeafAdded, RowBorn, RowEnded, end_in}
use Rattle.history.specs.History.{History, TxChange, SnapshotChange, RowChange, LockChange, CatalogueChange, tx_events, row_events, end_of, EndedByRunning, outcome, outcome_in, outcome_by}
use Rattle.history.specs.RowsSound.{AreRowsSound}
use Rattle.statement_steps.proofs.Open.{began_before, running_open}

-- who ends a version has begun
ended_or_before : (now : TxEvents) (h : History) (id k : ℕ) (x e : End) (b : Bool) → x.by.number < next_tx (tx_events h) → (end_in now (row_events h) k ≡ Some e → e.by.number < next_tx (tx_events h))
    → (if b then Some x else end_in now (row_events h) k) ≡ Some e → e.by.number < next_tx (tx_events h)
ended_or_before now h id k x e true begun before is =
    let same : x ≡ e = cc in
    let tx = ap (λ (y : End). y.by.number) same in
    omega (arith, tx, begun)
ended_or_before now h id k x e false begun before is = before is

ender_began : (now : TxEvents) (h : History) (k : ℕ) (e : End) → AreRowsSound h → end_in now (row_events h) k ≡ Some e → e.by.number < next_tx (tx_events h)
ender_began now [] k e sound is = absurd (cc)
ender_began now (TxChange x ∷ h) k e sound is = began_before x (tx_events h) e.by.number (ender_began now h k e sound is)
ender_began now (SnapshotChange x ∷ h) k e sound is = ender_began now h k e sound is
ender_began now (LockChange x ∷ h) k e sound is = ender_began now h k e sound is
ender_began now (CatalogueChange x ∷ h) k e sound is = ender_began now h k e sound is
ender_began now (RowChange (LeafAdded l) ∷ h) k e sound is = ender_began now h k e sound.1 is
ender_began now (RowChange (RowBorn v) ∷ h) k e sound is = ender_began now h k e sound.1 is
ender_began now (RowChange (RowEnded id x) ∷ h) k e sound is =
    ended_or_before now h id k x e ((id == k) && not (was_aborted now x.by.number)) sound.0.by.begun (ender_began now h k e sound.1) is

record Ender (h : TxEvents) (o : Option End) (t : ℕ) : Type 0 where
  end : End
  is : o ≡ Some end
  by : end.by.number ≡ t
  runs : fate h t ≡ Running

ender : (h : TxEvents) (o : Option End) (t : ℕ) → outcome_in h o ≡ EndedByRunning t → Ender h o t
ender h None t is = absurd (cc)
ender h (Some e) t is = go (fate h e.by.number) refl is
  where
    go : (f : Fate) → fate h e.by.number ≡ f → outcome_by f e ≡ EndedByRunning t → Ender h (Some e) t
    go Running at this = let same : e.by.number ≡ t = cc in record { end = e; is = refl; by = same; runs = ap (fate h) (sym same) ∙ at }
    go Committed at this = absurd (cc)
    go Aborted at this = absurd (cc)

pub ender_open : (h : History) (k t : ℕ) → IsSound (tx_events h) → AreRowsSound h → outcome h k ≡ EndedByRunning t → open_of (tx_events h) (session_of (tx_events h) t) ≡ Some t
ender_open h k t txs rows is =
    let who = ender (tx_events h) (end_of h k) t is in
    let began = ender_began (tx_events h) h k who.end rows who.is in
    let begun : t < next_tx (tx_events h) = omega (arith, began, who.by) in
    running_open (tx_events h) t txs begun who.runs
