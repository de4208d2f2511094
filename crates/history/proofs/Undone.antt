-- A history without what an aborted transaction did.
use Rattle.std.proofs.Common.{◌≡◌, ◌≢◌, ℕ, ◌==◌, ◌&&◌, arith, Bool, true, false, [], ◌∷◌, ◌++◌, inl, inr, refl, ap, sym, ◌∙◌, filter, append-nil}
use Rattle.std.proofs.lemmas.Grind.{common_steps}
use Rattle.std.proofs.lemmas.Bool.{cases_Bool}
use Rattle.std.proofs.lemmas.Bool.Decides.{nat_tests}
use Rattle.std.proofs.lemmas.List.Elements.{filter_agree, filter-append}
use Rattle.history.specs.declared.version.Version.{Version}
use Rattle.history.specs.Transactions.{TxEvents, fate, is_committed, was_aborted, IsSound, IsPast}
use Rattle.history.specs.Snapshots.{TakenSnapshot, sees}
use Rattle.history.specs.Rows.{RowBorn, RowEnded, end_in}
use Rattle.history.specs.History.{History, TxChange, RowChange, tx_events, row_events, versions, is_seen}
use Rattle.history.specs.Laws.{without, AbortUndoes}
use Rattle.history.proofs.Settled.{settled_past}

same_txs : (t : ℕ) (h : History) → tx_events (without t h) ≡ tx_events h
same_txs t [] = refl
same_txs t (TxChange e ∷ h) = ap (λ txs. e ∷ txs) (same_txs t h)
same_txs t (RowChange (RowBorn v) ∷ h) = elim (cases_Bool (v.by.number == t)) [ inl e ↦ rw e (same_txs t h) | inr e ↦ rw e (same_txs t h) ]
same_txs t (RowChange (RowEnded k e) ∷ h) = elim (cases_Bool (e.by.number == t)) [ inl q ↦ rw q (same_txs t h) | inr q ↦ rw q (same_txs t h) ]
same_txs t (_ ∷ h) = same_txs t h

same_ends : (txs : TxEvents) (t k : ℕ) (h : History) → was_aborted txs t ≡ true → end_in txs (row_events (without t h)) k ≡ end_in txs (row_events h) k
same_ends txs t k [] over = refl
same_ends txs t k (RowChange (RowBorn v) ∷ h) over = elim (cases_Bool (v.by.number == t)) [ inl e ↦ rw e (same_ends txs t k h over) | inr e ↦ rw e (same_ends txs t k h over) ]
same_ends txs t k (RowChange (RowEnded id e) ∷ h) over = elim (cases_Bool (e.by.number == t)) [
  | inl q ↦
      let same : e.by.number ≡ t = grind (arith, nat_tests) in
      let gone : was_aborted txs e.by.number ≡ true = ap (was_aborted txs) same ∙ over in
      rw q (same_ends txs t k h over ∙ grind (arith, common_steps))
  | inr q ↦ rw (q, same_ends txs t k h over) refl
]
same_ends txs t k (_ ∷ h) over = same_ends txs t k h over

-- a filter that nothing of the transaction passes
same_births : (p : Version → Bool) (t : ℕ) (h : History) → ((v : Version) → v.by.number ≡ t → p v ≡ false) → filter p (versions (without t h)) ≡ filter p (versions h)
same_births p t [] none = refl
same_births p t (RowChange (RowBorn v) ∷ h) none = elim (cases_Bool (v.by.number == t)) [
  | inl e ↦
      let same : v.by.number ≡ t = grind (arith, nat_tests) in
      let left_out : filter p (v ∷ []) ≡ [] = rw (none v same) refl in
      rw e (same_births p t h none ∙ sym (filter-append p (versions h) (v ∷ []) ∙ ap (λ vs. filter p (versions h) ++ vs) left_out ∙ append-nil (filter p (versions h))))
  | inr e ↦ rw e (filter-append p (versions (without t h)) (v ∷ []) ∙ ap (λ vs. vs ++ filter p (v ∷ [])) (same_births p t h none) ∙ sym (filter-append p (versions h) (v ∷ [])))
]
same_births p t (RowChange (RowEnded k e) ∷ h) none = elim (cases_Bool (e.by.number == t)) [ inl q ↦ rw q (same_births p t h none) | inr q ↦ rw q (same_births p t h none) ]
same_births p t (_ ∷ h) none = same_births p t h none

aborted-not_committed : (h past : TxEvents) (t : ℕ) → IsSound h → IsPast past h → was_aborted h t ≡ true → is_committed (fate past t) ≡ false
aborted-not_committed h past t sound past_of over = grind (arith, common_steps, settled_past h past t sound past_of)

unseen : (h : History) (leaf t : ℕ) (s : TakenSnapshot) → IsSound (tx_events h) → IsPast s.past (tx_events h) → was_aborted (tx_events h) t ≡ true → s.tx ≢ t → (v : Version) → v.by.number ≡ t → ((v.leaf.number == leaf) && is_seen h s v) ≡ false
unseen h leaf t s sound past over other v by =
    let not_committed : is_committed (fate s.past v.by.number) ≡ false = ap (λ x. is_committed (fate s.past x)) by ∙ aborted-not_committed (tx_events h) s.past t sound past over in
    let not_own : (v.by.number == s.tx) ≡ false = grind (arith, nat_tests) in
    let none : sees (tx_events h) s v.by.number v.cmd ≡ false = rw (not_committed, not_own) refl in
    grind (arith, common_steps)

pub abort_undoes : AbortUndoes
abort_undoes h leaf t s sound past over other =
    let P : Version → Bool = λ v. (v.leaf.number == leaf) && is_seen h s v in
    let Q : Version → Bool = λ v. (v.leaf.number == leaf) && is_seen (without t h) s v in
    let same : (v : Version) → Q v ≡ P v = λ v. rw (same_txs t h, same_ends (tx_events h) t v.id.number h over) refl in
    sym (filter_agree Q P same (versions (without t h)) ∙ same_births P t h (unseen h leaf t s sound past over other))
