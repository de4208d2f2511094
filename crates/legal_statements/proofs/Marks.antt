-- An entry that is pending for a transaction is pending for its session.
use Rattle.std.proofs.Common.{◌≡◌, ℕ, ◌==◌, true, false, [], ◌∷◌, inl, inr, refl, ap, sym, ◌∙◌, Option, Some, None, arith}
use Rattle.std.proofs.lemmas.Grind.{common_steps}
use Rattle.std.proofs.lemmas.Bool.{cases_Bool}
use Rattle.std.proofs.lemmas.Bool.Decides.{nat_tests}
use Rattle.history.specs.declared.catalogue.Entry.{Entry}
use Rattle.history.specs.declared.catalogue.Stamp.{Stamp}
use Rattle.history.specs.Transactions.{TxEvents, open_of, was_aborted}
use Rattle.history.specs.Catalogue.{TableMade, TableDropped, EntryAdded, EntryEnded, EntryMarked, CheckKept, Stamps, marks, counted_of, IsMark}
use Rattle.history.specs.History.{History, TxChange, SnapshotChange, RowChange, CatalogueChange, LockChange, tx_events, catalogue_events}
use Rattle.history.specs.Places.{AreCatalogueSound}
use Rattle.history.specs.Presence.{counts, stamp_counts, is_present, is_pending}
use Rattle.history.specs.Legal.{IsLegal}
use Rattle.history.proofs.Settled.{AbortsStay, aborts_before}
use Rattle.soundness.specs.Legal.{HasPending}
use Rattle.soundness.proofs.Sound.{sound_of, catalogue_sound_of}
use Rattle.soundness.proofs.Looking.{alive_by, counts_world}
use Rattle.soundness.proofs.Paths.{agree}
use Rattle.legal_statements.proofs.Holding.{session_runs}

pub none_later : (old new : TxEvents) (ds : Stamps) (k : ℕ) → AbortsStay old new → counted_of old ds k ≡ None → counted_of new ds k ≡ None
none_later old new [] k stay none = refl
none_later old new (d ∷ ds) k stay none = grind (arith, common_steps, none_later old new ds k stay, stay d.1.by.number)

-- the stamp that counts is by that transaction
abbrev pub CountsBy : TxEvents → Stamps → ℕ → ℕ → Type 0
CountsBy txs ds k u = (s : Stamp) × (counted_of txs ds k ≡ Some s) × (s.by.number ≡ u)

pub counts_new : (txs : TxEvents) (ds : Stamps) (n : ℕ) (s : Stamp) (k u : ℕ) → n ≡ k → s.by.number ≡ u → was_aborted txs u ≡ false → CountsBy txs ((n, s) ∷ ds) k u
counts_new txs ds n s k u same by alive =
    let here : (n == k) ≡ true = grind (arith, nat_tests) in
    let live : was_aborted txs s.by.number ≡ false = ap (was_aborted txs) by ∙ alive in
    (s, rw (here, live) refl, by)

none_or_some : (o : Option Stamp) (s : Stamp) → o ≡ None → o ≡ Some s → ⊥
none_or_some o s none some = cc

pub counts_old : (txs : TxEvents) (ds : Stamps) (n : ℕ) (x : Stamp) (k u : ℕ) → counted_of txs ds n ≡ None → CountsBy txs ds k u → CountsBy txs ((n, x) ∷ ds) k u
counts_old txs ds n x k u none (s, is, by) =
    let other : (n == k) ≡ false = elim (cases_Bool (n == k)) [
      | inr away ↦ away
      | inl here ↦ let e : n ≡ k = grind (arith, nat_tests, here) in absurd (none_or_some (counted_of txs ds k) s (ap (counted_of txs ds) (sym e) ∙ none) is)
    ] in
    (s, rw other is, by)

-- a mark that can count is the one that counts
mark_stands : (h : History) (txs : TxEvents) (k u : ℕ) → AbortsStay (tx_events h) txs → AreCatalogueSound h → IsMark (catalogue_events h) k u → was_aborted txs u ≡ false → CountsBy txs (marks (catalogue_events h)) k u
mark_stands [] txs k u stay sound is alive = absurd is
mark_stands (TxChange e ∷ h) txs k u stay sound is alive = mark_stands h txs k u (aborts_before e (tx_events h) txs stay) sound is alive
mark_stands (CatalogueChange (EntryMarked n s) ∷ h) txs k u stay sound (inl new) alive = counts_new txs (marks (catalogue_events h)) n s k u new.0 new.1 alive
mark_stands (CatalogueChange (EntryMarked n s) ∷ h) txs k u stay sound (inr old) alive =
    counts_old txs (marks (catalogue_events h)) n s k u (none_later (tx_events h) txs (marks (catalogue_events h)) n stay sound.0.1) (mark_stands h txs k u stay sound.1 old alive)
mark_stands (CatalogueChange (TableMade t) ∷ h) txs k u stay sound is alive = mark_stands h txs k u stay sound.1 is alive
mark_stands (CatalogueChange (TableDropped n s) ∷ h) txs k u stay sound is alive = mark_stands h txs k u stay sound.1 is alive
mark_stands (CatalogueChange (EntryAdded e) ∷ h) txs k u stay sound is alive = mark_stands h txs k u stay sound.1 is alive
mark_stands (CatalogueChange (EntryEnded n s) ∷ h) txs k u stay sound is alive = mark_stands h txs k u stay sound.1 is alive
mark_stands (CatalogueChange (CheckKept c) ∷ h) txs k u stay sound is alive = mark_stands h txs k u stay sound.1 is alive
mark_stands (SnapshotChange e ∷ h) txs k u stay sound is alive = mark_stands h txs k u stay sound is alive
mark_stands (RowChange e ∷ h) txs k u stay sound is alive = mark_stands h txs k u stay sound is alive
mark_stands (LockChange e ∷ h) txs k u stay sound is alive = mark_stands h txs k u stay sound is alive

pub pending_for : (h : History) (session t : ℕ) (e : Entry) → IsLegal h → open_of (tx_events h) session ≡ Some t → is_present h session e ≡ true → HasPending h t e → is_pending h session e ≡ true
pending_for h session t e legal own present (u, mark, mine) =
    let txs = tx_events h in
    let counted : counts txs session u ≡ true = agree txs session t u own (session_runs h session t legal own).runs ∙ mine in
    let alive = alive_by txs u (counts txs session u) ((counts_world txs session (sound_of h legal)).aborted u) counted in
    let its = mark_stands h txs e.id.number u (λ x a. a) (catalogue_sound_of h legal) mark alive in
    let by : counts txs session its.0.by.number ≡ true = ap (counts txs session) its.2 ∙ counted in
    let stamped : stamp_counts txs session (counted_of txs (marks (catalogue_events h)) e.id.number) ≡ true = rw its.1 by in
    rw (present, stamped) refl
