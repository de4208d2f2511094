-- What a snapshot sees of a leaf stays the same under the events of others.
use Rattle.std.proofs.Common.{◌≡◌, ◌≢◌, ℕ, ◌==◌, ◌&&◌, ◌||◌, not, nat_lt, arith, Bool, true, false, if◌then◌else◌, [], ◌∷◌, ◌++◌, ◌⊎◌, inl, inr, refl, ap, sym, subst, ◌∙◌, Option, Some, None, filter, append-nil}
use Rattle.std.proofs.lemmas.Bool.{cases_Bool}
use Rattle.std.proofs.lemmas.Bool.Decides.{nat_tests}
use Rattle.std.proofs.lemmas.List.Elements.{filter_agree, filter-append}
use Rattle.history.specs.declared.transaction.Fate.{Fate}
use Rattle.history.specs.declared.transaction.Fate.TheVariants.{Running, Committed, Aborted}
use Rattle.history.specs.declared.version.Version.{Version}
use Rattle.history.specs.declared.version.End.{End}
use Rattle.history.specs.Transactions.{TxEvents, TxEvent, TxBegan, TxCommitted, TxAborted, fate, is_committed, was_aborted, IsSound, IsPast}
use Rattle.history.specs.Snapshots.{TakenSnapshot, SnapshotHeld, SnapshotDropped, held_by, sees}
use Rattle.history.specs.Rows.{RowBorn, RowEnded, counted, last_end}
use Rattle.history.specs.History.{History, TxChange, SnapshotChange, RowChange, tx_events, snapshot_events, row_events, versions, end_of, sees_end, is_seen, seen}
use Rattle.history.specs.RowsSound.{AreRowsSound}
use Rattle.history.specs.Legal.{IsTimely, IsLegal}
use Rattle.history.specs.Laws.{alters, OthersChangeNothing, HeldWasTaken}
use Rattle.history.proofs.Settled.{settled_past, stands_free, end_of-last}

sound_of : (h : History) → IsLegal h → IsSound (tx_events h)
sound_of [] legal = tt
sound_of (TxChange e ∷ h) legal = legal.0
sound_of (_ ∷ h) legal = sound_of h legal.2

rows_sound_of : (h : History) → IsLegal h → AreRowsSound h
rows_sound_of [] legal = tt
rows_sound_of (RowChange e ∷ h) legal = (legal.0, rows_sound_of h legal.2)
rows_sound_of (_ ∷ h) legal = rows_sound_of h legal.2

not_committed : (f g : Fate) → (f ≢ Running → g ≡ f) → g ≡ Running → is_committed f ≡ false
not_committed Running g stays runs = refl
not_committed Aborted g stays runs = refl
not_committed Committed g stays runs =
    let kept : g ≡ Committed = stays (λ e. cc) in
    let both : Committed ≡ Running = sym kept ∙ runs in
    absurd (cc)

-- what a transaction that runs did is not seen by a snapshot of another one, nor by its own one if the
-- command is not an earlier one
unseen : (txs : TxEvents) (s : TakenSnapshot) (t c : ℕ) → IsSound txs → IsPast s.past txs → fate txs t ≡ Running → ((t == s.tx) && nat_lt c s.cmd) ≡ false → sees txs s t c ≡ false
unseen txs s t c sound past runs other = rw (not_committed (fate s.past t) (fate txs t) (settled_past txs s.past t sound past) runs, other) refl

-- an end that counts no more was not seen
abort_hides : (txs : TxEvents) (s : TakenSnapshot) (r t : ℕ) (x : End) → IsSound txs → IsPast s.past txs → fate txs t ≡ Running → (t == s.tx) ≡ false → (b : Bool) → (t == x.by.number) ≡ b → (a : Bool) → was_aborted txs x.by.number ≡ a → sees_end (TxAborted r t ∷ txs) s (if b || a then None else Some x) ≡ sees_end txs s (if a then None else Some x)
abort_hides txs s r t x sound past runs other true same true was = refl
abort_hides txs s r t x sound past runs other true same false lives =
    let is : t ≡ x.by.number = grind (arith, nat_tests) in
    let its : fate txs x.by.number ≡ Running = ap (fate txs) (sym is) ∙ runs in
    let away : (x.by.number == s.tx) ≡ false = ap (λ i. i == s.tx) (sym is) ∙ other in
    let no_own : ((x.by.number == s.tx) && nat_lt x.cmd s.cmd) ≡ false = rw away refl in
    sym (unseen txs s x.by.number x.cmd sound past its no_own)
abort_hides txs s r t x sound past runs other false same true was = refl
abort_hides txs s r t x sound past runs other false same false lives = refl

ends_alike : (e : TxEvent) (txs : TxEvents) (s : TakenSnapshot) (o : Option End) → IsSound (e ∷ txs) → IsPast s.past txs → ((r t : ℕ) → e ≡ TxAborted r t → (t == s.tx) ≡ false) → sees_end (e ∷ txs) s (counted (e ∷ txs) o) ≡ sees_end txs s (counted txs o)
ends_alike e txs s None sound past other = refl
ends_alike (TxBegan r t) txs s (Some x) sound past other = elim (cases_Bool (was_aborted txs x.by.number)) [ inl a ↦ rw a refl | inr a ↦ rw a refl ]
ends_alike (TxCommitted r t) txs s (Some x) sound past other = elim (cases_Bool (was_aborted txs x.by.number)) [ inl a ↦ rw a refl | inr a ↦ rw a refl ]
ends_alike (TxAborted r t) txs s (Some x) sound past other = abort_hides txs s r t x sound.2 past sound.0 (other r t refl) (t == x.by.number) refl (was_aborted txs x.by.number) refl

-- after an event of a transaction
same_tx : (e : TxEvent) (h : History) (leaf : ℕ) (s : TakenSnapshot) → IsSound (e ∷ tx_events h) → AreRowsSound h → IsPast s.past (tx_events h) → ((r t : ℕ) → e ≡ TxAborted r t → (t == s.tx) ≡ false) → seen (TxChange e ∷ h) leaf s ≡ seen h leaf s
same_tx e h leaf s sound rows past other =
    filter_agree (λ v. (v.leaf.number == leaf) && is_seen (TxChange e ∷ h) s v) (λ v. (v.leaf.number == leaf) && is_seen h s v)
    (λ v.
    let k : ℕ = v.id.number in
    let now : sees_end (e ∷ tx_events h) s (end_of (TxChange e ∷ h) k) ≡ sees_end (tx_events h) s (end_of h k) =
    ap (sees_end (e ∷ tx_events h) s) (end_of-last (TxChange e ∷ h) k rows)
    ∙ ends_alike e (tx_events h) s (last_end (row_events h) k) sound past other
    ∙ ap (sees_end (tx_events h) s) (sym (end_of-last h k rows)) in
    ap (λ b. (v.leaf.number == leaf) && (sees (tx_events h) s v.by.number v.cmd && not b)) now) (versions h)

-- after a birth
same_born : (v : Version) (h : History) (leaf : ℕ) (s : TakenSnapshot) → sees (tx_events h) s v.by.number v.cmd ≡ false → seen (RowChange (RowBorn v) ∷ h) leaf s ≡ seen h leaf s
same_born v h leaf s away =
    let P : Version → Bool = λ w. (w.leaf.number == leaf) && is_seen h s w in
    let none : is_seen h s v ≡ false = rw away refl in
    let left : P v ≡ false = elim (cases_Bool (v.leaf.number == leaf)) [ inl a ↦ rw (a, none) refl | inr a ↦ rw a refl ] in
    let left_out : filter P (v ∷ []) ≡ [] = rw left refl in
    filter-append P (versions h) (v ∷ []) ∙ ap (λ vs. filter P (versions h) ++ vs) left_out ∙ append-nil (filter P (versions h))

-- after an end
end_unseen : (h : History) (s : TakenSnapshot) (k j : ℕ) (x : End) → sees (tx_events h) s x.by.number x.cmd ≡ false → end_of h k ≡ None → (b : Bool) → (k == j) ≡ b → (a : Bool) → sees_end (tx_events h) s (if b && a then Some x else end_of h j) ≡ sees_end (tx_events h) s (end_of h j)
end_unseen h s k j x away none true same true =
    let is : k ≡ j = grind (arith, nat_tests) in
    let before : end_of h j ≡ None = ap (end_of h) (sym is) ∙ none in
    rw (before, away) refl
end_unseen h s k j x away none true same false = refl
end_unseen h s k j x away none false same a = refl

same_ended : (k : ℕ) (x : End) (h : History) (leaf : ℕ) (s : TakenSnapshot) → sees (tx_events h) s x.by.number x.cmd ≡ false → end_of h k ≡ None → seen (RowChange (RowEnded k x) ∷ h) leaf s ≡ seen h leaf s
same_ended k x h leaf s away none =
    filter_agree (λ v. (v.leaf.number == leaf) && is_seen (RowChange (RowEnded k x) ∷ h) s v) (λ v. (v.leaf.number == leaf) && is_seen h s v)
    (λ v. ap (λ b. (v.leaf.number == leaf) && (sees (tx_events h) s v.by.number v.cmd && not b)) (end_unseen h s k v.id.number x away none (k == v.id.number) refl (not (was_aborted (tx_events h) x.by.number)))) (versions h)

not_abort : (s : TakenSnapshot) (e : TxEvent) → alters s (TxChange e) ≡ false → (r t : ℕ) → e ≡ TxAborted r t → (t == s.tx) ≡ false
not_abort s e other r t is = ap (λ x. alters s (TxChange x)) (sym is) ∙ other

pub others_change_nothing : OthersChangeNothing
others_change_nothing (TxChange e) h leaf s legal past other = same_tx e h leaf s legal.0 (rows_sound_of h legal.2) past (not_abort s e other)
others_change_nothing (RowChange (RowBorn v)) h leaf s legal past other = same_born v h leaf s (unseen (tx_events h) s v.by.number v.cmd (sound_of h legal.2) past legal.0.by.runs other)
others_change_nothing (RowChange (RowEnded k x)) h leaf s legal past other = same_ended k x h leaf s (unseen (tx_events h) s x.by.number x.cmd (sound_of h legal.2) past legal.0.by.runs other) (stands_free h k legal.0.standing)
others_change_nothing _ h leaf s legal past other = refl

either : (b : Bool) (new : TakenSnapshot) (old : Option TakenSnapshot) (x : TakenSnapshot) → (if b then Some new else old) ≡ Some x → (new ≡ x) ⊎ (old ≡ Some x)
either true new old x e = inl (cc)
either false new old x e = inr e

other_left : (b : Bool) (old : Option TakenSnapshot) (x : TakenSnapshot) → (if b then None else old) ≡ Some x → old ≡ Some x
other_left true old x e = absurd (cc)
other_left false old x e = e

timely_past : (h : History) (r : ℕ) (s : TakenSnapshot) (o : Option TakenSnapshot) → held_by (snapshot_events h) r ≡ o → ((x : TakenSnapshot) → held_by (snapshot_events h) r ≡ Some x → IsPast x.past (tx_events h)) → IsTimely o (tx_events h) s → IsPast s.past (tx_events h)
timely_past h r s None is pasts now = ([], now)
timely_past h r s (Some old) is pasts (inl now) = ([], now)
timely_past h r s (Some old) is pasts (inr same) =
    let P : TxEvents → Type 0 = λ p. IsPast p (tx_events h) in
    subst P (sym same.0) (pasts old is)

pub held_was_taken : HeldWasTaken
held_was_taken [] r s legal is = absurd (cc)
held_was_taken (TxChange e ∷ h) r s legal is = let p = held_was_taken h r s legal.2 is in (e ∷ p.0, ap (λ txs. e ∷ txs) p.1)
held_was_taken (SnapshotChange (SnapshotHeld q x) ∷ h) r s legal is = elim (either (q == r) x (held_by (snapshot_events h) r) s is) [
  | inl same ↦
      let P : TakenSnapshot → Type 0 = λ y. IsPast y.past (tx_events h) in
      subst P same (timely_past h q x _ refl (λ y at. held_was_taken h q y legal.2 at) legal.0.0.timely)
  | inr old ↦ held_was_taken h r s legal.2 old
]
held_was_taken (SnapshotChange (SnapshotDropped q) ∷ h) r s legal is = held_was_taken h r s legal.2 (other_left (q == r) (held_by (snapshot_events h) r) s is)
held_was_taken (_ ∷ h) r s legal is = held_was_taken h r s legal.2 is
