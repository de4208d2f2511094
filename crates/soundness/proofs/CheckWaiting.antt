-- What a waiting transaction may write passes, after whatever others do, the CHECKs that it passed before.
use Rattle.std.proofs.Common.{◌≡◌, ℕ, ◌∷◌, true, inl, inr, subst, sym, List}
use Rattle.pg_values.specs.declared.value.Value.{Value}
use Rattle.history.specs.declared.catalogue.Entry.{Entry}
use Rattle.history.specs.declared.catalogue.Check.{Check}
use Rattle.history.specs.Catalogue.{CatalogueEvents, TableMade, TableDropped, EntryAdded, EntryEnded, EntryMarked, CheckKept}
use Rattle.history.specs.History.{TxChange, SnapshotChange, RowChange, CatalogueChange, LockChange, tx_events, catalogue_events}
use Rattle.soundness.specs.Worlds.{World, Present, view}
use Rattle.soundness.proofs.Worlds.{both_ways, view_world, view_own}
use Rattle.soundness.proofs.Under.{under_map}
use Rattle.soundness.proofs.Txs.{shrinks}
use Rattle.soundness.proofs.Added.{present_was}
use Rattle.soundness.proofs.Ended.{was_present}
use Rattle.soundness.specs.Kept.{CountsIn, PassAbove}
use Rattle.soundness.specs.Laws.{WaitingPass}
use Rattle.soundness.proofs.CheckRepeats.{other_out}
use Rattle.soundness.proofs.CheckBorn.{pass_up}
use Rattle.soundness.proofs.All.{legal_keeps_both, added}

-- fewer CHECKs and entries ask for less
fewer_pass : (c d : CatalogueEvents) (w : World) (x : ℕ) (row : List Value) → ((e : Entry) → Present d w e → Present c w e) → ((k : Check) → CountsIn d w k → CountsIn c w k) → PassAbove c w x row → PassAbove d w x row
fewer_pass c d w x row was kept pass k n is low = pass k n (kept k is) (under_map d c w w was n k.table.number x low)

pub waiting_pass : WaitingPass
waiting_pass (TxChange e) h t x row legal permitted acts runs foreign locked accept pass =
    let now = legal_keeps_both h legal.2 permitted.1 in
    pass_up h (view (e ∷ tx_events h) t) t x row now.0 now.1 ((shrinks e (tx_events h) legal.0).worlds (view (e ∷ tx_events h) t) (view_world (e ∷ tx_events h) t)) acts (view_own (e ∷ tx_events h) t runs) locked accept pass
waiting_pass (SnapshotChange e) h t x row legal permitted acts runs foreign locked accept pass = pass
waiting_pass (RowChange e) h t x row legal permitted acts runs foreign locked accept pass = pass
waiting_pass (LockChange e) h t x row legal permitted acts runs foreign locked accept pass = pass
waiting_pass (CatalogueChange (TableMade y)) h t x row legal permitted acts runs foreign locked accept pass = fewer_pass (catalogue_events h) (TableMade y ∷ catalogue_events h) (view (tx_events h) t) x row (λ e p. p) (λ k is. is) pass
waiting_pass (CatalogueChange (TableDropped k s)) h t x row legal permitted acts runs foreign locked accept pass = fewer_pass (catalogue_events h) (TableDropped k s ∷ catalogue_events h) (view (tx_events h) t) x row (λ e p. p) (λ k is. is) pass
waiting_pass (CatalogueChange (EntryAdded e)) h t x row legal permitted acts runs foreign locked accept pass =
    let now = legal_keeps_both h legal.2 permitted.1 in
    let may = added h e legal.2 now.0 now.1 permitted.0 in
    fewer_pass (catalogue_events h) (EntryAdded e ∷ catalogue_events h) (view (tx_events h) t) x row (λ g p. elim (present_was e (catalogue_events h) (view (tx_events h) t) g p) [
      | inl new ↦ absurd (both_ways (view (tx_events h) t e.by.number) new.1 (other_out (tx_events h) t e.by.number may.place.acts.runs foreign))
      | inr old ↦ old
    ]) (λ k is. is) pass
waiting_pass (CatalogueChange (EntryEnded k s)) h t x row legal permitted acts runs foreign locked accept pass = fewer_pass (catalogue_events h) (EntryEnded k s ∷ catalogue_events h) (view (tx_events h) t) x row (was_present k s (catalogue_events h) (view (tx_events h) t)) (λ k is. is) pass
waiting_pass (CatalogueChange (EntryMarked k s)) h t x row legal permitted acts runs foreign locked accept pass = fewer_pass (catalogue_events h) (EntryMarked k s ∷ catalogue_events h) (view (tx_events h) t) x row (λ e p. p) (λ k is. is) pass
waiting_pass (CatalogueChange (CheckKept c)) h t x row legal permitted acts runs foreign locked accept pass = fewer_pass (catalogue_events h) (CheckKept c ∷ catalogue_events h) (view (tx_events h) t) x row (λ e p. p) (λ k is. elim is.0 [
  | inl new ↦ absurd (both_ways (view (tx_events h) t c.by.number) (subst (λ (z : Check). view (tx_events h) t z.by.number ≡ true) (sym new) is.1) (other_out (tx_events h) t c.by.number permitted.0.acts.runs foreign))
  | inr old ↦ (old, is.1)
]) pass
