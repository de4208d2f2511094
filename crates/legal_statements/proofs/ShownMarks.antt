-- A mark of an entry that can count is the one that counts; and numbers of entries are new.
use Rattle.std.proofs.Common.{◌≡◌, ℕ, ◌<◌, ◌==◌, not, arith, true, false, [], ◌∷◌, inl, inr, refl, ap, sym, ◌∙◌, Option, Some, None, get_or, subst, length}
use Rattle.std.specs.List.{All}
use Rattle.std.proofs.lemmas.Grind.{common_steps}
use Rattle.std.proofs.lemmas.Bool.{cases_Bool, and_parts}
use Rattle.std.proofs.lemmas.Bool.Decides.{nat_tests}
use Rattle.std.proofs.lemmas.List.Elements.{All-filter, filter_passes}
use Rattle.history.specs.declared.catalogue.Entry.{Entry}
use Rattle.history.specs.declared.catalogue.Stamp.{Stamp}
use Rattle.history.specs.Transactions.{TxEvents, was_aborted, IsSound}
use Rattle.history.specs.Snapshots.{TakenSnapshot}
use Rattle.history.specs.Catalogue.{CatalogueEvents, TableMade, TableDropped, EntryAdded, EntryEnded, EntryMarked, CheckKept, Stamps, entries_added, marks, counted_of, IsEntry, IsEntryEnd, IsMark}
use Rattle.history.specs.History.{History, TxChange, SnapshotChange, RowChange, CatalogueChange, LockChange, tx_events, catalogue_events}
use Rattle.history.specs.Places.{AreCatalogueSound}
use Rattle.history.specs.Presence.{is_present, is_shown, sees_stamp, entries_shown}
use Rattle.history.specs.Legal.{IsLegal}
use Rattle.history.proofs.Settled.{AbortsStay, aborts_before}
use Rattle.soundness.proofs.Presence.{all_entries, present_in, shown_in}
use Rattle.soundness.proofs.Sound.{catalogue_sound_of, end_below, entry_below, mark_below}
use Rattle.legal_statements.specs.ShownPartitions.{IsMarkAt, IsShownAttached, IsAnother, AttachedAgainIsAnother}

-- ---- the mark that counts

none_later : (old new : TxEvents) (ds : Stamps) (k : ℕ) → AbortsStay old new → counted_of old ds k ≡ None → counted_of new ds k ≡ None
none_later old new [] k stay none = refl
none_later old new (d ∷ ds) k stay none = grind (arith, common_steps, none_later old new ds k stay, stay d.1.by.number)

counts_new : (txs : TxEvents) (ds : Stamps) (n : ℕ) (s : Stamp) (k : ℕ) (x : Stamp) → n ≡ k → s ≡ x → was_aborted txs x.by.number ≡ false → counted_of txs ((n, s) ∷ ds) k ≡ Some x
counts_new txs ds n s k x same is alive =
    let here : (n == k) ≡ true = grind (arith, nat_tests) in
    let live : was_aborted txs s.by.number ≡ false = ap (λ (z : Stamp). was_aborted txs z.by.number) is ∙ alive in
    rw (here, live) (ap Some is)

none_or_some : (o : Option Stamp) (x : Stamp) → o ≡ None → o ≡ Some x → ⊥
none_or_some o x none some = cc

counts_old : (txs : TxEvents) (ds : Stamps) (n : ℕ) (s : Stamp) (k : ℕ) (x : Stamp) → counted_of txs ds n ≡ None → counted_of txs ds k ≡ Some x → counted_of txs ((n, s) ∷ ds) k ≡ Some x
counts_old txs ds n s k x none is =
    let other : (n == k) ≡ false = elim (cases_Bool (n == k)) [
      | inr away ↦ away
      | inl here ↦ let e : n ≡ k = grind (arith, nat_tests, here) in absurd (none_or_some (counted_of txs ds k) x (ap (counted_of txs ds) (sym e) ∙ none) is)
    ] in
    rw other is

mark_counts : (h : History) (txs : TxEvents) (k : ℕ) (x : Stamp) → AbortsStay (tx_events h) txs → AreCatalogueSound h → IsMarkAt (catalogue_events h) k x → was_aborted txs x.by.number ≡ false → counted_of txs (marks (catalogue_events h)) k ≡ Some x
mark_counts [] txs k x stay sound is alive = absurd is
mark_counts (TxChange e ∷ h) txs k x stay sound is alive = mark_counts h txs k x (aborts_before e (tx_events h) txs stay) sound is alive
mark_counts (CatalogueChange (EntryMarked n s) ∷ h) txs k x stay sound (inl new) alive = counts_new txs (marks (catalogue_events h)) n s k x new.0 new.1 alive
mark_counts (CatalogueChange (EntryMarked n s) ∷ h) txs k x stay sound (inr old) alive =
    counts_old txs (marks (catalogue_events h)) n s k x (none_later (tx_events h) txs (marks (catalogue_events h)) n stay sound.0.1) (mark_counts h txs k x stay sound.1 old alive)
mark_counts (CatalogueChange (TableMade t) ∷ h) txs k x stay sound is alive = mark_counts h txs k x stay sound.1 is alive
mark_counts (CatalogueChange (TableDropped n s) ∷ h) txs k x stay sound is alive = mark_counts h txs k x stay sound.1 is alive
mark_counts (CatalogueChange (EntryAdded e) ∷ h) txs k x stay sound is alive = mark_counts h txs k x stay sound.1 is alive
mark_counts (CatalogueChange (EntryEnded n s) ∷ h) txs k x stay sound is alive = mark_counts h txs k x stay sound.1 is alive
mark_counts (CatalogueChange (CheckKept c) ∷ h) txs k x stay sound is alive = mark_counts h txs k x stay sound.1 is alive
mark_counts (SnapshotChange e ∷ h) txs k x stay sound is alive = mark_counts h txs k x stay sound is alive
mark_counts (RowChange e ∷ h) txs k x stay sound is alive = mark_counts h txs k x stay sound is alive
mark_counts (LockChange e ∷ h) txs k x stay sound is alive = mark_counts h txs k x stay sound is alive

-- ---- what is shown is attached

shown_is_attached : (h : History) (session : ℕ) (s : TakenSnapshot) (e : Entry) → IsSound (tx_events h) → AreCatalogueSound h → IsEntry (catalogue_events h) e → is_shown h session s e ≡ true → IsShownAttached h session s e
shown_is_attached h session s e sound cats is shown =
    let seen = sees_stamp (tx_events h) s (counted_of (tx_events h) (marks (catalogue_events h)) e.id.number) in
    let parts = and_parts (is_present h session e) (not seen) shown in
    let out : seen ≡ false = grind (arith, common_steps, parts.1) in
    record {
      present = present_in h session e sound cats is (shown_in h session s e shown);
      unmarked = λ x at alive. ap (sees_stamp (tx_events h) s) (sym (mark_counts h (tx_events h) e.id.number x (λ t a. a) cats at alive)) ∙ out;
    }

pub all_attached : (h : History) (session : ℕ) (s : TakenSnapshot) → IsSound (tx_events h) → AreCatalogueSound h → All (IsShownAttached h session s) (entries_shown h session s)
all_attached h session s sound cats k d lt =
    let is = All-filter (is_shown h session s) (IsEntry (catalogue_events h)) (entries_added (catalogue_events h)) (all_entries (catalogue_events h)) k d lt in
    let shown = filter_passes (is_shown h session s) (entries_added (catalogue_events h)) k d lt in
    shown_is_attached h session s (get_or (entries_shown h session s) k d) sound cats is shown

-- ---- new numbers

mark_by : (cats : CatalogueEvents) (k : ℕ) (x : Stamp) → IsMarkAt cats k x → IsMark cats k x.by.number
mark_by [] k x is = is
mark_by (EntryMarked n s ∷ cats) k x (inl new) = inl (new.0, ap (λ (z : Stamp). z.by.number) new.1)
mark_by (EntryMarked n s ∷ cats) k x (inr old) = inr (mark_by cats k x old)
mark_by (TableMade t ∷ cats) k x is = mark_by cats k x is
mark_by (TableDropped n s ∷ cats) k x is = mark_by cats k x is
mark_by (EntryAdded e ∷ cats) k x is = mark_by cats k x is
mark_by (EntryEnded n s ∷ cats) k x is = mark_by cats k x is
mark_by (CheckKept c ∷ cats) k x is = mark_by cats k x is

not_below : (n m : ℕ) → n ≡ m → n < m → ⊥
not_below n m is lt = omega (arith, is, lt)

pub attached_again_is_another : AttachedAgainIsAnother
attached_again_is_another h e legal =
    let sound = catalogue_sound_of (CatalogueChange (EntryAdded e) ∷ h) legal in
    let n : ℕ = length (entries_added (catalogue_events h)) in
    let new : e.id.number ≡ n = sound.0.0 in
    record {
      entries = λ f is. subst (λ (k : ℕ). f.id.number < k) (sym new) (entry_below h f sound.1 is);
      unended = λ u end. not_below e.id.number n new (end_below h e.id.number u sound.1 end);
      unmarked = λ x at. not_below e.id.number n new (mark_below h e.id.number x.by.number sound.1 (mark_by (catalogue_events h) e.id.number x at));
    }
