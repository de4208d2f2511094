-- What is present for a session, by the words of the history, is present in its world.
use Rattle.std.proofs.Common.{◌≡◌, ℕ, ◌+◌, ◌<◌, ◌==◌, not, arith, true, false, List, [], ◌∷◌, ◌++◌, inl, inr, refl, ap, sym, ◌∙◌, Option, Some, None, length, get_or}
use Rattle.std.specs.List.{All, AllPairs}
use Rattle.std.proofs.lemmas.Grind.{common_steps}
use Rattle.std.proofs.lemmas.Bool.{cases_Bool, cases_lt, and_parts}
use Rattle.std.proofs.lemmas.Bool.Decides.{nat_tests}
use Rattle.std.proofs.lemmas.List.{length-append, get_or_append_left}
use Rattle.std.proofs.lemmas.List.Elements.{All-append, All-cons, All-nil, All-filter, filter_passes}
use Rattle.std.proofs.lemmas.List.Kept.{AllPairs-filter}
use Rattle.std.proofs.Math.Seq.{get_or-append_seam}
use Rattle.history.specs.declared.catalogue.Entry.{Entry}
use Rattle.history.specs.declared.catalogue.Stamp.{Stamp}
use Rattle.history.specs.Transactions.{TxEvents, was_aborted, IsSound}
use Rattle.history.specs.Snapshots.{TakenSnapshot}
use Rattle.history.specs.Catalogue.{CatalogueEvents, TableMade, TableDropped, EntryAdded, EntryEnded, EntryMarked, CheckKept, Stamps, entries_added, entry_ends, counted_of, IsEntry, IsEntryEnd}
use Rattle.history.specs.History.{History, TxChange, SnapshotChange, RowChange, CatalogueChange, LockChange, tx_events, catalogue_events}
use Rattle.history.specs.Places.{AreCatalogueSound}
use Rattle.history.specs.Presence.{counts, stamp_counts, is_present, is_shown, entries_present, entries_shown}
use Rattle.history.proofs.Settled.{AbortsStay, aborts_before}
use Rattle.row_router.specs.Siblings.{AreSiblings}
use Rattle.soundness.specs.Worlds.{Present}
use Rattle.soundness.specs.Parts.{Siblings}
use Rattle.soundness.proofs.Counted.{AreTwo}
use Rattle.soundness.proofs.Looking.{alive_by, counts_world}

-- ---- an end of an entry that can count is the one that counts

none_later : (old new : TxEvents) (ds : Stamps) (k : ℕ) → AbortsStay old new → counted_of old ds k ≡ None → counted_of new ds k ≡ None
none_later old new [] k stay none = refl
none_later old new (d ∷ ds) k stay none = grind (arith, common_steps, none_later old new ds k stay, stay d.1.by.number)

-- the end that counts is by that transaction
abbrev CountsBy : TxEvents → Stamps → ℕ → ℕ → Type 0
CountsBy txs ds k u = (s : Stamp) × (counted_of txs ds k ≡ Some s) × (s.by.number ≡ u)

counts_new : (txs : TxEvents) (ds : Stamps) (n : ℕ) (s : Stamp) (k u : ℕ) → n ≡ k → s.by.number ≡ u → was_aborted txs u ≡ false → CountsBy txs ((n, s) ∷ ds) k u
counts_new txs ds n s k u same by alive =
    let here : (n == k) ≡ true = grind (arith, nat_tests) in
    let live : was_aborted txs s.by.number ≡ false = ap (was_aborted txs) by ∙ alive in
    (s, rw (here, live) refl, by)

none_or_some : (o : Option Stamp) (s : Stamp) → o ≡ None → o ≡ Some s → ⊥
none_or_some o s none some = cc

counts_old : (txs : TxEvents) (ds : Stamps) (n : ℕ) (x : Stamp) (k u : ℕ) → counted_of txs ds n ≡ None → CountsBy txs ds k u → CountsBy txs ((n, x) ∷ ds) k u
counts_old txs ds n x k u none (s, is, by) =
    let other : (n == k) ≡ false = elim (cases_Bool (n == k)) [
      | inr away ↦ away
      | inl here ↦ let e : n ≡ k = grind (arith, nat_tests, here) in absurd (none_or_some (counted_of txs ds k) s (ap (counted_of txs ds) (sym e) ∙ none) is)
    ] in
    (s, rw other is, by)

end_stands : (h : History) (txs : TxEvents) (k u : ℕ) → AbortsStay (tx_events h) txs → AreCatalogueSound h → IsEntryEnd (catalogue_events h) k u → was_aborted txs u ≡ false → CountsBy txs (entry_ends (catalogue_events h)) k u
end_stands [] txs k u stay sound is alive = absurd is
end_stands (TxChange e ∷ h) txs k u stay sound is alive = end_stands h txs k u (aborts_before e (tx_events h) txs stay) sound is alive
end_stands (CatalogueChange (EntryEnded n s) ∷ h) txs k u stay sound (inl new) alive = counts_new txs (entry_ends (catalogue_events h)) n s k u new.0 new.1 alive
end_stands (CatalogueChange (EntryEnded n s) ∷ h) txs k u stay sound (inr old) alive =
    counts_old txs (entry_ends (catalogue_events h)) n s k u (none_later (tx_events h) txs (entry_ends (catalogue_events h)) n stay sound.0.1) (end_stands h txs k u stay sound.1 old alive)
end_stands (CatalogueChange (TableMade t) ∷ h) txs k u stay sound is alive = end_stands h txs k u stay sound.1 is alive
end_stands (CatalogueChange (TableDropped n s) ∷ h) txs k u stay sound is alive = end_stands h txs k u stay sound.1 is alive
end_stands (CatalogueChange (EntryAdded e) ∷ h) txs k u stay sound is alive = end_stands h txs k u stay sound.1 is alive
end_stands (CatalogueChange (EntryMarked n s) ∷ h) txs k u stay sound is alive = end_stands h txs k u stay sound.1 is alive
end_stands (CatalogueChange (CheckKept c) ∷ h) txs k u stay sound is alive = end_stands h txs k u stay sound.1 is alive
end_stands (SnapshotChange e ∷ h) txs k u stay sound is alive = end_stands h txs k u stay sound is alive
end_stands (RowChange e ∷ h) txs k u stay sound is alive = end_stands h txs k u stay sound is alive
end_stands (LockChange e ∷ h) txs k u stay sound is alive = end_stands h txs k u stay sound is alive

-- ---- presence

no_stamp : (txs : TxEvents) (session u : ℕ) (o : Option Stamp) → stamp_counts txs session o ≡ false → (s : Stamp) → o ≡ Some s → s.by.number ≡ u → counts txs session u ≡ false
no_stamp txs session u None out s is by = absurd (cc)
no_stamp txs session u (Some x) out s is by = let e : x ≡ s = cc in ap (counts txs session) (sym (ap (λ (z : Stamp). z.by.number) e ∙ by)) ∙ out

pub present_in : (h : History) (session : ℕ) (e : Entry) → IsSound (tx_events h) → AreCatalogueSound h → IsEntry (catalogue_events h) e → is_present h session e ≡ true → Present (catalogue_events h) (counts (tx_events h) session) e
present_in h session e sound cats is present =
    let ended = stamp_counts (tx_events h) session (counted_of (tx_events h) (entry_ends (catalogue_events h)) e.id.number) in
    let parts = and_parts (counts (tx_events h) session e.by.number) (not ended) present in
    let out : ended ≡ false = grind (arith, common_steps, parts.1) in
    let world = counts_world (tx_events h) session sound in (
      is,
      parts.0,
      λ u end. elim (cases_Bool (counts (tx_events h) session u)) [
        | inr n ↦ n
        | inl y ↦
            let alive = alive_by (tx_events h) u (counts (tx_events h) session u) (world.aborted u) y in
            let its = end_stands h (tx_events h) e.id.number u (λ t a. a) cats end alive in
            no_stamp (tx_events h) session u (counted_of (tx_events h) (entry_ends (catalogue_events h)) e.id.number) out its.0 its.1 its.2
      ],
    )

pub shown_in : (h : History) (session : ℕ) (s : TakenSnapshot) (e : Entry) → is_shown h session s e ≡ true → is_present h session e ≡ true
shown_in h session s e shown = (and_parts (is_present h session e) _ shown).0

pub all_more : {X : Type 0} (P Q : X → Type 0) (xs : List X) → ((x : X) → P x → Q x) → All P xs → All Q xs
all_more P Q xs to all k d lt = to (get_or xs k d) (all k d lt)

pub all_entries : (cats : CatalogueEvents) → All (IsEntry cats) (entries_added cats)
all_entries [] = All-nil (IsEntry [])
all_entries (EntryAdded e ∷ cats) = All-append (IsEntry (EntryAdded e ∷ cats)) (entries_added cats) (e ∷ []) (all_more (IsEntry cats) (IsEntry (EntryAdded e ∷ cats)) (entries_added cats) (λ x is. inr is) (all_entries cats)) (All-cons (IsEntry (EntryAdded e ∷ cats)) e [] (inl refl) (All-nil (IsEntry (EntryAdded e ∷ cats))))
all_entries (TableMade t ∷ cats) = all_entries cats
all_entries (TableDropped n s ∷ cats) = all_entries cats
all_entries (EntryEnded n s ∷ cats) = all_entries cats
all_entries (EntryMarked n s ∷ cats) = all_entries cats
all_entries (CheckKept c ∷ cats) = all_entries cats

pub all_shown : (h : History) (session : ℕ) (s : TakenSnapshot) → IsSound (tx_events h) → AreCatalogueSound h → All (Present (catalogue_events h) (counts (tx_events h) session)) (entries_shown h session s)
all_shown h session s sound cats k d lt =
    let is = All-filter (is_shown h session s) (IsEntry (catalogue_events h)) (entries_added (catalogue_events h)) (all_entries (catalogue_events h)) k d lt in
    let shown = filter_passes (is_shown h session s) (entries_added (catalogue_events h)) k d lt in
    present_in h session (get_or (entries_shown h session s) k d) sound cats is (shown_in h session s (get_or (entries_shown h session s) k d) shown)

pub all_present : (h : History) (session : ℕ) → IsSound (tx_events h) → AreCatalogueSound h → All (Present (catalogue_events h) (counts (tx_events h) session)) (entries_present h session)
all_present h session sound cats k d lt =
    let is = All-filter (is_present h session) (IsEntry (catalogue_events h)) (entries_added (catalogue_events h)) (all_entries (catalogue_events h)) k d lt in
    let present = filter_passes (is_present h session) (entries_added (catalogue_events h)) k d lt in
    present_in h session (get_or (entries_present h session) k d) sound cats is present

-- ---- the entries that are present for a session are siblings

numbered_more : (es : List Entry) (e : Entry) → e.id.number ≡ length es → ((i : ℕ) (d : Entry) → i < length es → (get_or es i d).id.number ≡ i) → (i : ℕ) (d : Entry) → i < length (es ++ e ∷ []) → (get_or (es ++ e ∷ []) i d).id.number ≡ i
numbered_more es e at old i d lt =
    let n : length (es ++ e ∷ []) ≡ length es + 1 = length-append es (e ∷ []) in
    elim (cases_lt i (length es)) [
      | inl below ↦ ap (λ (x : Entry). x.id.number) (get_or_append_left es (e ∷ []) d i below) ∙ old i d below
      | inr le ↦
          let here : i ≡ length es = omega (arith, n, lt, le) in
          let is : get_or (es ++ e ∷ []) i d ≡ e = ap (λ j. get_or (es ++ e ∷ []) j d) here ∙ get_or-append_seam es e [] d in
          ap (λ (x : Entry). x.id.number) is ∙ (at ∙ sym here)
    ]

numbered_at : (h : History) → AreCatalogueSound h → (i : ℕ) (d : Entry) → i < length (entries_added (catalogue_events h)) → (get_or (entries_added (catalogue_events h)) i d).id.number ≡ i
numbered_at [] sound i d lt = absurd (omega (arith, lt))
numbered_at (CatalogueChange (EntryAdded e) ∷ h) sound i d lt = numbered_more (entries_added (catalogue_events h)) e sound.0.0 (numbered_at h sound.1) i d lt
numbered_at (CatalogueChange (TableMade t) ∷ h) sound i d lt = numbered_at h sound.1 i d lt
numbered_at (CatalogueChange (TableDropped n s) ∷ h) sound i d lt = numbered_at h sound.1 i d lt
numbered_at (CatalogueChange (EntryEnded n s) ∷ h) sound i d lt = numbered_at h sound.1 i d lt
numbered_at (CatalogueChange (EntryMarked n s) ∷ h) sound i d lt = numbered_at h sound.1 i d lt
numbered_at (CatalogueChange (CheckKept c) ∷ h) sound i d lt = numbered_at h sound.1 i d lt
numbered_at (TxChange e ∷ h) sound i d lt = numbered_at h sound i d lt
numbered_at (SnapshotChange e ∷ h) sound i d lt = numbered_at h sound i d lt
numbered_at (RowChange e ∷ h) sound i d lt = numbered_at h sound i d lt
numbered_at (LockChange e ∷ h) sound i d lt = numbered_at h sound i d lt

all_two : (h : History) → AreCatalogueSound h → AllPairs AreTwo (entries_added (catalogue_events h))
all_two h sound i j d lt below same =
    let a = numbered_at h sound i d (omega (arith, lt, below)) in
    let b = numbered_at h sound j d below in
    let e : i ≡ j = sym a ∙ (same ∙ b) in
    omega (arith, lt, e)

pub present_siblings : (h : History) (session : ℕ) → IsSound (tx_events h) → AreCatalogueSound h → Siblings (catalogue_events h) (counts (tx_events h) session) → AreSiblings (entries_present h session)
present_siblings h session sound cats siblings i j d lt below =
    let two = AllPairs-filter AreTwo (is_present h session) (entries_added (catalogue_events h)) (all_two h cats) i j d lt below in
    let present = all_present h session sound cats in
    siblings.together (get_or (entries_present h session) i d) (get_or (entries_present h session) j d) (present i d (omega (arith, lt, below))) (present j d below) two
