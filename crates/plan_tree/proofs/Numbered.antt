-- No two entries of a history have one number.
use Rattle.std.proofs.Common.{◌≡◌, ℕ, ◌+◌, ◌<◌, arith, List, [], ◌∷◌, ◌++◌, inl, inr, ap, sym, ◌∙◌, length, get_or}
use Rattle.std.specs.List.{AllPairs}
use Rattle.std.proofs.lemmas.Bool.{cases_lt}
use Rattle.std.proofs.lemmas.List.{length-append, get_or_append_left}
use Rattle.std.proofs.Math.Seq.{get_or-append_seam}
use Rattle.history.specs.declared.catalogue.Entry.{Entry}
use Rattle.history.specs.Catalogue.{TableMade, TableDropped, EntryAdded, EntryEnded, EntryMarked, CheckKept, entries_added}
use Rattle.history.specs.History.{History, TxChange, SnapshotChange, RowChange, CatalogueChange, LockChange, catalogue_events}
use Rattle.history.specs.Places.{AreCatalogueSound}
use Rattle.soundness.proofs.Counted.{AreTwo}

numbered_more : (es : List Entry) (e : Entry) → e.id.number ≡ length es → ((i : ℕ) (d : Entry) → i < length es → (get_or es i d).id.number ≡ i) → (i : ℕ) (d : Entry) → i < length (es ++ e ∷ []) → (get_or (es ++ e ∷ []) i d).id.number ≡ i
numbered_more es e at old i d lt =
    let n : length (es ++ e ∷ []) ≡ length es + 1 = length-append es (e ∷ []) in
    elim (cases_lt i (length es)) [
      | inl below ↦ ap (λ (x : Entry). x.id.number) (get_or_append_left es (e ∷ []) d i below) ∙ old i d below
      | inr le ↦
          let here : i ≡ length es = omega (arith, n, lt, le) in
          let is : get_or (es ++ e ∷ []) i d ≡ e = ap (λ j. get_or (es ++ e ∷ []) j d) here ∙ get_or-append_seam es e [] d in
          ap (λ (x : Entry). x.id.number) is ∙ (at ∙ sym here)
    ]

numbered_at : (h : History) → AreCatalogueSound h → (i : ℕ) (d : Entry) → i < length (entries_added (catalogue_events h)) → (get_or (entries_added (catalogue_events h)) i d).id.number ≡ i
numbered_at [] sound i d lt = absurd (omega (arith, lt))
numbered_at (CatalogueChange (EntryAdded e) ∷ h) sound i d lt = numbered_more (entries_added (catalogue_events h)) e sound.0.0 (numbered_at h sound.1) i d lt
numbered_at (CatalogueChange (TableMade t) ∷ h) sound i d lt = numbered_at h sound.1 i d lt
numbered_at (CatalogueChange (TableDropped n s) ∷ h) sound i d lt = numbered_at h sound.1 i d lt
numbered_at (CatalogueChange (EntryEnded n s) ∷ h) sound i d lt = numbered_at h sound.1 i d lt
numbered_at (CatalogueChange (EntryMarked n s) ∷ h) sound i d lt = numbered_at h sound.1 i d lt
numbered_at (CatalogueChange (CheckKept c) ∷ h) sound i d lt = numbered_at h sound.1 i d lt
numbered_at (TxChange e ∷ h) sound i d lt = numbered_at h sound i d lt
numbered_at (SnapshotChange e ∷ h) sound i d lt = numbered_at h sound i d lt
numbered_at (RowChange e ∷ h) sound i d lt = numbered_at h sound i d lt
numbered_at (LockChange e ∷ h) sound i d lt = numbered_at h sound i d lt

pub all_two : (h : History) → AreCatalogueSound h → AllPairs AreTwo (entries_added (catalogue_events h))
all_two h sound i j d lt below same =
    let a = numbered_at h sound i d (omega (arith, lt, below)) in
    let b = numbered_at h sound j d below in
    let e : i ≡ j = sym a ∙ (same ∙ b) in
    omega (arith, lt, e)
