-- While a transaction may write a leaf, others can take entries above it away, and add none.
use Rattle.std.proofs.Common.{◌≡◌, ℕ, ◌||◌, ◌&&◌, Bool, false, ◌∷◌, List, inl, inr, refl, subst}
use Rattle.pg_values.specs.declared.value.Value.{Value}
use Rattle.history.specs.declared.transaction.Fate.{Fate}
use Rattle.history.specs.declared.transaction.Fate.TheVariants.{Running, Committed, Aborted}
use Rattle.history.specs.declared.catalogue.Entry.{Entry}
use Rattle.history.specs.Transactions.{fate, is_committed}
use Rattle.history.specs.Catalogue.{CatalogueEvents, TableMade, TableDropped, EntryAdded, EntryEnded, EntryMarked, CheckKept}
use Rattle.history.specs.History.{History, TxChange, SnapshotChange, RowChange, CatalogueChange, LockChange, tx_events, catalogue_events}
use Rattle.soundness.specs.Worlds.{World, same_tx, is_running, view, Present, AcceptsKey, AcceptAbove, key_at}
use Rattle.soundness.specs.Legal.{MayAdd}
use Rattle.soundness.specs.Laws.{WaitingAccept}
use Rattle.soundness.proofs.Worlds.{both_ways, view_world, view_own}
use Rattle.soundness.proofs.Under.{under_map, accepts_map}
use Rattle.soundness.proofs.Made.{same_key}
use Rattle.soundness.proofs.Txs.{shrinks}
use Rattle.soundness.proofs.Rows.{accept_up}
use Rattle.soundness.proofs.Added.{present_was}
use Rattle.soundness.proofs.Ended.{was_present}
use Rattle.soundness.proofs.All.{legal_keeps_all, legal_keeps_both, added}

-- fewer entries ask for less
fewer_accept : (c d : CatalogueEvents) (w : World) (x : ℕ) (row : List Value) → ((e : Entry) → Present d w e → Present c w e) → ((e : Entry) → Present d w e → key_at c e.parent.number row ≡ key_at d e.parent.number row) → AcceptAbove c w x row → AcceptAbove d w x row
fewer_accept c d w x row was keys accept e n p low =
    let old = accept e n (was e p) (under_map d c w w was n e.child.number x low) in
    subst (λ k. AcceptsKey d w e.parent.number e.bound k) (keys e p) (accepts_map d c w w e.parent.number e.bound (key_at c e.parent.number row) (λ by_default f q same. inl (was f q)) old)

other_out : (f : Fate) (s : Bool) → f ≡ Running → s ≡ false → (is_committed f || (s && is_running f)) ≡ false
other_out Running s runs other = rw other refl
other_out Committed s runs other = absurd (cc)
other_out Aborted s runs other = absurd (cc)

foreign_present : (h : History) (e : Entry) (t : ℕ) → MayAdd h e → same_tx (tx_events h) t e.by.number ≡ false → (g : Entry) → Present (EntryAdded e ∷ catalogue_events h) (view (tx_events h) t) g → Present (catalogue_events h) (view (tx_events h) t) g
foreign_present h e t may other g p = elim (present_was e (catalogue_events h) (view (tx_events h) t) g p) [
  | inl new ↦ absurd (both_ways (view (tx_events h) t e.by.number) new.1 (other_out (fate (tx_events h) e.by.number) (same_tx (tx_events h) t e.by.number) may.place.acts.runs other))
  | inr old ↦ old
]

pub waiting_accept : WaitingAccept
waiting_accept (TxChange e) h t x row legal permitted acts runs foreign locked accept =
    accept_up h (view (e ∷ tx_events h) t) t x row (legal_keeps_all h legal.2 permitted.1) ((shrinks e (tx_events h) legal.0).worlds (view (e ∷ tx_events h) t) (view_world (e ∷ tx_events h) t)) acts (view_own (e ∷ tx_events h) t runs) locked accept
waiting_accept (SnapshotChange e) h t x row legal permitted acts runs foreign locked accept = accept
waiting_accept (RowChange e) h t x row legal permitted acts runs foreign locked accept = accept
waiting_accept (LockChange e) h t x row legal permitted acts runs foreign locked accept = accept
waiting_accept (CatalogueChange (TableMade y)) h t x row legal permitted acts runs foreign locked accept =
    let i = legal_keeps_all h legal.2 permitted.1 in
    fewer_accept (catalogue_events h) (TableMade y ∷ catalogue_events h) (view (tx_events h) t) x row (λ e p. p) (λ e p. same_key y (catalogue_events h) e.parent.number row (i.entries.suited e p.0).parent) accept
waiting_accept (CatalogueChange (TableDropped k s)) h t x row legal permitted acts runs foreign locked accept = fewer_accept (catalogue_events h) (TableDropped k s ∷ catalogue_events h) (view (tx_events h) t) x row (λ e p. p) (λ e p. refl) accept
waiting_accept (CatalogueChange (EntryAdded e)) h t x row legal permitted acts runs foreign locked accept = fewer_accept (catalogue_events h) (EntryAdded e ∷ catalogue_events h) (view (tx_events h) t) x row (let now = legal_keeps_both h legal.2 permitted.1 in foreign_present h e t (added h e legal.2 now.0 now.1 permitted.0) foreign) (λ g p. refl) accept
waiting_accept (CatalogueChange (EntryEnded k s)) h t x row legal permitted acts runs foreign locked accept = fewer_accept (catalogue_events h) (EntryEnded k s ∷ catalogue_events h) (view (tx_events h) t) x row (was_present k s (catalogue_events h) (view (tx_events h) t)) (λ e p. refl) accept
waiting_accept (CatalogueChange (EntryMarked k s)) h t x row legal permitted acts runs foreign locked accept = fewer_accept (catalogue_events h) (EntryMarked k s ∷ catalogue_events h) (view (tx_events h) t) x row (λ e p. p) (λ e p. refl) accept
waiting_accept (CatalogueChange (CheckKept c)) h t x row legal permitted acts runs foreign locked accept = fewer_accept (catalogue_events h) (CheckKept c ∷ catalogue_events h) (view (tx_events h) t) x row (λ e p. p) (λ e p. refl) accept
