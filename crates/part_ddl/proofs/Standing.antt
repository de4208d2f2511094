-- Two histories for which the stores stand tell the same of what is there.
use Rattle.std.proofs.Common.{◌≡◌, ℕ, ◌<◌, ◌&&◌, ◌||◌, ◌++◌, not, arith, ap, refl, sym, subst, ◌∙◌, Bool, true, false, if◌then◌else◌, List, [], ◌∷◌, Option, Some, None, filter, map, length, get_or, inl, inr}
use Rattle.std.specs.List.{All}
use Rattle.std.proofs.lemmas.Grind.{common_steps, elements}
use Rattle.std.proofs.lemmas.Bool.{cases_Bool, cases_lt}
use Rattle.std.proofs.lemmas.List.{get_or-map, length-map}
use Rattle.std.proofs.lemmas.List.Elements.{All-filter}
use Rattle.history.specs.declared.transaction.Fate.{Fate}
use Rattle.history.specs.declared.transaction.Fate.TheVariants.{Running, Committed, Aborted}
use Rattle.history.specs.declared.catalogue.Entry.{Entry}
use Rattle.history.specs.declared.catalogue.Stamp.{Stamp}
use Rattle.history.specs.Transactions.{TxEvents, IsSound, fate, is_committed, open_of, session_of, was_aborted, was_committed}
use Rattle.history.specs.Catalogue.{EntryAdded, entries_added, drops, entry_ends, counted_of, standing}
use Rattle.history.specs.History.{History, CatalogueChange, tx_events, catalogue_events}
use Rattle.history.specs.Places.{AreCatalogueSound}
use Rattle.history.specs.Presence.{counts, is_own, is_present, stamp_counts, entries_present}
use Rattle.history.proofs.Stamps.{newest_drop_counts, newest_end_counts}
use Rattle.tx_table.specs.Kept.{KeptTable}
use Rattle.tx_table.specs.Stands.{TableStands}
use Rattle.part_catalog.specs.declared.stored.StoredEntry.{StoredEntry}
use Rattle.part_catalog.specs.Kept.{KeptCatalogue, entry_in, no_entry, by_place}
use Rattle.part_catalog.specs.Stands.{CatalogueStands, present_by, is_flagged}
use Rattle.part_catalog.proofs.Places.{own_number}
use Rattle.part_catalog.proofs.Renumbered.{renumbered}
use Rattle.part_catalog.proofs.Told.{present_flagged, present_kept}

-- ---- transactions

same_fate : (table : KeptTable) (g h : History) → TableStands table g → TableStands table h → (t : ℕ) → fate (tx_events g) t ≡ fate (tx_events h) t
same_fate table g h a b t = sym (a.fates t) ∙ b.fates t

pub same_open : (table : KeptTable) (g h : History) → TableStands table g → TableStands table h → (s : ℕ) → open_of (tx_events g) s ≡ open_of (tx_events h) s
same_open table g h a b s = sym (a.current s) ∙ b.current s

pub same_owner : (table : KeptTable) (g h : History) → TableStands table g → TableStands table h → (t : ℕ) → session_of (tx_events g) t ≡ session_of (tx_events h) t
same_owner table g h a b t = sym (a.owners t) ∙ b.owners t

abbrev is_aborted : Fate → Bool
is_aborted Running = false
is_aborted Committed = false
is_aborted Aborted = true

aborted_told : (txs : TxEvents) (t : ℕ) → was_aborted txs t ≡ is_aborted (fate txs t)
aborted_told txs t = elim (cases_Bool (was_aborted txs t)) [
  | inl y ↦ rw y refl
  | inr n ↦ elim (cases_Bool (was_committed txs t)) [ inl c ↦ rw (n, c) refl | inr d ↦ rw (n, d) refl ]
]

same_aborted : (table : KeptTable) (g h : History) → TableStands table g → TableStands table h → (t : ℕ) → was_aborted (tx_events g) t ≡ was_aborted (tx_events h) t
same_aborted table g h a b t = aborted_told (tx_events g) t ∙ ap is_aborted (same_fate table g h a b t) ∙ sym (aborted_told (tx_events h) t)

same_counts : (table : KeptTable) (g h : History) → TableStands table g → TableStands table h → (s t : ℕ) → counts (tx_events g) s t ≡ counts (tx_events h) s t
same_counts table g h a b s t =
    ap (λ (f : Fate). is_committed f || is_own (open_of (tx_events g) s) t) (same_fate table g h a b t)
    ∙ ap (λ (o : Option ℕ). is_committed (fate (tx_events h) t) || is_own o t) (same_open table g h a b s)

pub same_standing : (table : KeptTable) (g h : History) → TableStands table g → TableStands table h → (o : Option Stamp) → standing (tx_events g) o ≡ standing (tx_events h) o
same_standing table g h a b None = refl
same_standing table g h a b (Some s) = ap (λ (x : Bool). if x then None else Some s) (same_aborted table g h a b s.by.number)

same_stamp : (table : KeptTable) (g h : History) → TableStands table g → TableStands table h → (s : ℕ) (o : Option Stamp) → stamp_counts (tx_events g) s o ≡ stamp_counts (tx_events h) s o
same_stamp table g h a b s None = refl
same_stamp table g h a b s (Some x) = same_counts table g h a b s x.by.number

same_present_by : (table : KeptTable) (g h : History) → TableStands table g → TableStands table h → (s : ℕ) (x : StoredEntry) → present_by (tx_events g) s x ≡ present_by (tx_events h) s x
same_present_by table g h a b s x =
    ap (λ (c : Bool). c && not (stamp_counts (tx_events g) s (standing (tx_events g) x.ended))) (same_counts table g h a b s x.entry.by.number)
    ∙ ap (λ (o : Option Stamp). counts (tx_events h) s x.entry.by.number && not (stamp_counts (tx_events g) s o)) (same_standing table g h a b x.ended)
    ∙ ap (λ (c : Bool). counts (tx_events h) s x.entry.by.number && not c) (same_stamp table g h a b s (standing (tx_events h) x.ended))

-- ---- the numbers of entries

numbered_more : (es : List Entry) (e d : Entry) (k : ℕ) → e.id.number ≡ length es → ((n : ℕ) → n < length es → (get_or es n d).id.number ≡ n) → k < length (es ++ e ∷ []) → (get_or (es ++ e ∷ []) k d).id.number ≡ k
numbered_more es e d k number old lt = elim (cases_lt k (length es)) [
  | inl before ↦
      let same : get_or (es ++ e ∷ []) k d ≡ get_or es k d = grind (arith, common_steps, elements) in
      ap (λ (x : Entry). x.id.number) same ∙ old k before
  | inr after ↦
      let here : k ≡ length es = grind (arith, common_steps, elements, after, lt) in
      let last : get_or (es ++ e ∷ []) k d ≡ e = grind (arith, common_steps, elements, here) in
      ap (λ (x : Entry). x.id.number) last ∙ number ∙ sym here
]

pub numbered : (h : History) → AreCatalogueSound h → (d : Entry) (k : ℕ) → k < length (entries_added (catalogue_events h)) → (get_or (entries_added (catalogue_events h)) k d).id.number ≡ k
numbered [] sound d k lt = absurd (omega (arith, lt))
numbered (CatalogueChange (EntryAdded e) ∷ h) sound d k lt = numbered_more (entries_added (catalogue_events h)) e d k sound.0.0 (λ n l. numbered h sound.1 d n l) lt
numbered (CatalogueChange e ∷ h) sound d k lt = numbered h sound.1 d k lt
numbered (_ ∷ h) sound d k lt = numbered h sound d k lt

-- ---- entries and tables

maps_agree : (f g : StoredEntry → Bool) → ((x : StoredEntry) → f x ≡ g x) → (xs : List StoredEntry) → map f xs ≡ map g xs
maps_agree f g same [] = refl
maps_agree f g same (x ∷ xs) = ap (λ (b : Bool). b ∷ map f xs) (same x) ∙ ap (λ (bs : List Bool). g x ∷ bs) (maps_agree f g same xs)

pub same_entries : (table : KeptTable) (kept : KeptCatalogue) (g h : History) → TableStands table g → TableStands table h → CatalogueStands kept g → CatalogueStands kept h → (s : ℕ) → entries_present g s ≡ entries_present h s
same_entries table kept g h a b c d s =
    let F : List Bool → List Entry = λ flags. map (renumbered (own_number kept.entries)) (filter (is_flagged flags) (by_place kept.entries)) in
    sym (present_flagged kept g s (map (present_by (tx_events g) s) kept.entries) a.sound c refl)
    ∙ ap F (maps_agree (present_by (tx_events g) s) (present_by (tx_events h) s) (same_present_by table g h a b s) kept.entries)
    ∙ present_flagged kept h s (map (present_by (tx_events h) s) kept.entries) b.sound d refl

-- what holds of each entry that is kept holds of each that is present
pub kept_present : (kept : KeptCatalogue) (h : History) (s : ℕ) (P : Entry → Type 0) → IsSound (tx_events h) → CatalogueStands kept h → ((k : ℕ) → k < length kept.entries → P (get_or kept.entries k no_entry).entry) → All P (entries_present h s)
kept_present kept h s P sound st each =
    let all : All P (map entry_in kept.entries) = λ k x lt.
    let within : k < length kept.entries = omega (arith, lt, length-map kept.entries entry_in) in
    subst P (sym (get_or-map entry_in kept.entries k no_entry x within)) (each k within) in
    subst (All P) (present_kept kept h s sound st) (All-filter (is_present h s) P (map entry_in kept.entries) all)

-- the two tell the same ends of an entry
abbrev pub EndsAlike : History → History → Entry → Type 0
EndsAlike g h e = counted_of (tx_events g) (entry_ends (catalogue_events g)) e.id.number ≡ counted_of (tx_events h) (entry_ends (catalogue_events h)) e.id.number

pub same_ended : (table : KeptTable) (kept : KeptCatalogue) (g h : History) → TableStands table g → TableStands table h → CatalogueStands kept g → CatalogueStands kept h → (s : ℕ) → All (EndsAlike g h) (entries_present h s)
same_ended table kept g h a b c d s =
    let each : (k : ℕ) → k < length kept.entries → EndsAlike g h (get_or kept.entries k no_entry).entry = λ k lt.
    let n = (get_or kept.entries k no_entry).entry.id.number in
    newest_end_counts g n c.sound ∙ ap (standing (tx_events g)) (sym (c.ends k lt) ∙ d.ends k lt) ∙ same_standing table g h a b _ ∙ sym (newest_end_counts h n d.sound) in
    kept_present kept h s (EndsAlike g h) b.sound d each

pub same_dropped : (table : KeptTable) (kept : KeptCatalogue) (g h : History) → TableStands table g → TableStands table h → CatalogueStands kept g → CatalogueStands kept h → (k : ℕ) → counted_of (tx_events g) (drops (catalogue_events g)) k ≡ counted_of (tx_events h) (drops (catalogue_events h)) k
same_dropped table kept g h a b c d k =
    newest_drop_counts g k c.sound
    ∙ ap (standing (tx_events g)) (sym (c.drops k) ∙ d.drops k)
    ∙ same_standing table g h a b _
    ∙ sym (newest_drop_counts h k d.sound)
