-- What came since was done by others.
use Rattle.std.proofs.Common.{◌≡◌, ℕ, List, [], ◌∷◌, ◌++◌, refl, ap, sym, ◌∙◌, append_assoc, Option, Some, None, map}
use Rattle.history.specs.Transactions.{open_of}
use Rattle.history.specs.Snapshots.{TakenSnapshot}
use Rattle.history.specs.Rows.{RowEvent}
use Rattle.history.specs.Locks.{LockEvent}
use Rattle.history.specs.History.{History, RowChange, LockChange, tx_events}
use Rattle.stores.specs.Events.{held_first}
use Rattle.statement_steps.specs.Waiting.{AddNone, Since}

pub add_append : (t : ℕ) (later earlier : History) → AddNone t later → AddNone t earlier → AddNone t (later ++ earlier)
add_append t [] earlier a b = b
add_append t (e ∷ later) earlier a b = (a.0, add_append t later earlier a.1 b)

pub since_now : (s : ℕ) (h : History) → Since s h h
since_now s h = record { events = []; is = refl; same = refl; others = λ t own. tt }

pub since_on : (s : ℕ) (h g k : History) → Since s h g → Since s g k → Since s h k
since_on s h g k first second = record {
  events = second.events ++ first.events;
  is = second.is ∙ (ap (λ x. second.events ++ x) first.is ∙ sym (append_assoc second.events first.events h));
  same = second.same ∙ first.same;
  others = λ t own. add_append t second.events first.events (second.others t (first.same ∙ own)) (first.others t own);
}

-- ---- locks and snapshots

lock_txs : (es : List LockEvent) (h : History) → tx_events (map LockChange es ++ h) ≡ tx_events h
lock_txs [] h = refl
lock_txs (e ∷ es) h = lock_txs es h

locks_add_none : (t : ℕ) (es : List LockEvent) → AddNone t (map LockChange es)
locks_add_none t [] = tt
locks_add_none t (e ∷ es) = (tt, locks_add_none t es)

pub since_locks : (s : ℕ) (es : List LockEvent) (h : History) → Since s h (map LockChange es ++ h)
since_locks s es h = record { events = map LockChange es; is = refl; same = ap (λ txs. open_of txs s) (lock_txs es h); others = λ t own. locks_add_none t es }

pub since_held : (o : Option TakenSnapshot) (s holder : ℕ) (snap : TakenSnapshot) (h : History) → Since s h (held_first o holder snap ++ h)
since_held None s holder snap h = record { events = held_first None holder snap; is = refl; same = refl; others = λ t own. (tt, tt) }
since_held (Some old) s holder snap h = record { events = held_first (Some old) holder snap; is = refl; same = refl; others = λ t own. tt }

-- ---- rows

pub since_row : (s : ℕ) (e : RowEvent) (h : History) → Since s h (RowChange e ∷ h)
since_row s e h = record { events = RowChange e ∷ []; is = refl; same = refl; others = λ t own. (tt, tt) }
