-- What is kept tells what is there, in a history that it stands for.
use Rattle.std.proofs.Common.{◌≡◌, ℕ, suc, ◌+◌, ◌==◌, ◌&&◌, ◌<◌, ◌++◌, arith, ap, refl, sym, subst, ◌∙◌, Bool, true, false, List, [], ◌∷◌, Option, Some, None, filter, map, drop, length, get_or, inl, inr}
use Rattle.std.specs.List.{find}
use Rattle.std.specs.Option.{option_map}
use Rattle.std.proofs.lemmas.Grind.{common_steps, elements}
use Rattle.std.proofs.lemmas.Bool.{cases_Bool, cases_lt}
use Rattle.std.proofs.lemmas.List.{get_or-map}
use Rattle.history.specs.declared.catalogue.Entry.{Entry}
use Rattle.history.specs.declared.catalogue.Stamp.{Stamp}
use Rattle.history.specs.Snapshots.{TakenSnapshot}
use Rattle.history.specs.Catalogue.{entries_added, entry_ends, marks, counted_of, newest_of, standing}
use Rattle.history.specs.History.{History, tx_events, catalogue_events}
use Rattle.history.specs.Places.{AreCatalogueSound}
use Rattle.history.specs.Presence.{is_present, is_pending, is_shown, stamp_counts, entries_present, entries_shown}
use Rattle.history.specs.Transactions.{TxEvents, was_aborted, IsSound}
use Rattle.history.proofs.Stamps.{newest_end_counts, newest_mark_counts}
use Rattle.row_router.specs.Histories.{above, is_over}
use Rattle.row_router.specs.Siblings.{AreSiblings}
use Rattle.row_router.proofs.Order.{siblings_kept}
use Rattle.part_catalog.specs.declared.stored.StoredEntry.{StoredEntry}
use Rattle.part_catalog.specs.Forgotten.{IsGone}
use Rattle.part_catalog.specs.Kept.{KeptCatalogue, entry_in, no_entry, with_place, by_place}
use Rattle.part_catalog.specs.Answers.{is_pending_below, pending_entry, marker_told}
use Rattle.part_catalog.specs.Stands.{CatalogueStands, present_by, pending_by, shown_by, above_by, pending_below, is_flagged}
use Rattle.part_catalog.proofs.Forgotten.{gone_are_hidden, thin_filter, thin_find}
use Rattle.part_catalog.proofs.Places.{own_number, passed_meet, length_by_place, at_by_place}
use Rattle.part_catalog.proofs.Renumbered.{renumbered, siblings_before}

pub present_told : (kept : KeptCatalogue) (h : History) (s k : ℕ) → CatalogueStands kept h → k < length kept.entries → present_by (tx_events h) s (get_or kept.entries k no_entry) ≡ is_present h s (get_or kept.entries k no_entry).entry
present_told kept h s k st lt =
    let n = (get_or kept.entries k no_entry).entry.id.number in
    let e : (get_or kept.entries k no_entry).ended ≡ newest_of (entry_ends (catalogue_events h)) n = st.ends k lt in
    let o = newest_end_counts h n st.sound in
    rw (e, o) refl

mark_told : (kept : KeptCatalogue) (h : History) (k : ℕ) → CatalogueStands kept h → k < length kept.entries → standing (tx_events h) (get_or kept.entries k no_entry).marked ≡ counted_of (tx_events h) (marks (catalogue_events h)) (get_or kept.entries k no_entry).entry.id.number
mark_told kept h k st lt =
    let n = (get_or kept.entries k no_entry).entry.id.number in
    let e : (get_or kept.entries k no_entry).marked ≡ newest_of (marks (catalogue_events h)) n = st.marks k lt in
    ap (standing (tx_events h)) e ∙ sym (newest_mark_counts h n st.sound)

pub shown_told : (kept : KeptCatalogue) (h : History) (s k : ℕ) (snap : TakenSnapshot) → CatalogueStands kept h → k < length kept.entries → shown_by (tx_events h) s snap (get_or kept.entries k no_entry) ≡ is_shown h s snap (get_or kept.entries k no_entry).entry
shown_told kept h s k snap st lt =
    let p = present_told kept h s k st lt in
    let m = mark_told kept h k st lt in
    rw (p, m) refl

pub pending_told : (kept : KeptCatalogue) (h : History) (s k : ℕ) → CatalogueStands kept h → k < length kept.entries → pending_by (tx_events h) s (get_or kept.entries k no_entry) ≡ is_pending h s (get_or kept.entries k no_entry).entry
pending_told kept h s k st lt =
    let p = present_told kept h s k st lt in
    let m = mark_told kept h k st lt in
    rw (p, m) refl

-- what is forgotten is there for nobody
hidden : (h : History) (s : ℕ) → IsSound (tx_events h) → AreCatalogueSound h → (e : Entry) → IsGone h e → is_present h s e ≡ false
hidden h s sound cat e gone = gone_are_hidden h s e sound cat gone

pub present_kept : (kept : KeptCatalogue) (h : History) (s : ℕ) → IsSound (tx_events h) → CatalogueStands kept h → filter (is_present h s) (map entry_in kept.entries) ≡ entries_present h s
present_kept kept h s sound st = thin_filter (IsGone h) (is_present h s) (hidden h s sound st.sound) (entries_added (catalogue_events h)) (map entry_in kept.entries) st.entries

shown_kept : (kept : KeptCatalogue) (h : History) (s : ℕ) (snap : TakenSnapshot) → IsSound (tx_events h) → CatalogueStands kept h → filter (is_shown h s snap) (map entry_in kept.entries) ≡ entries_shown h s snap
shown_kept kept h s snap sound st = thin_filter (IsGone h) (is_shown h s snap) (λ e gone. let off = hidden h s sound st.sound e gone in rw off refl) (entries_added (catalogue_events h)) (map entry_in kept.entries) st.entries

-- ---- tests that agree at each entry

flag_is : (f : StoredEntry → Bool) (xs : List StoredEntry) (flags : List Bool) (k : ℕ) → flags ≡ map f xs → k < length xs → is_flagged flags (with_place k (get_or xs k no_entry).entry) ≡ f (get_or xs k no_entry)
flag_is f xs flags k are lt = ap (λ fs. get_or fs k false) are ∙ get_or-map f xs k no_entry false lt

pub present_flagged : (kept : KeptCatalogue) (h : History) (s : ℕ) (flags : List Bool) → IsSound (tx_events h) → CatalogueStands kept h → flags ≡ map (present_by (tx_events h) s) kept.entries → map (renumbered (own_number kept.entries)) (filter (is_flagged flags) (by_place kept.entries)) ≡ entries_present h s
present_flagged kept h s flags sound st are =
    passed_meet (is_flagged flags) (is_present h s) kept.entries (λ k lt. flag_is (present_by (tx_events h) s) kept.entries flags k are lt ∙ present_told kept h s k st lt)
    ∙ present_kept kept h s sound st

pub shown_flagged : (kept : KeptCatalogue) (h : History) (s : ℕ) (snap : TakenSnapshot) (flags : List Bool) → IsSound (tx_events h) → CatalogueStands kept h → flags ≡ map (shown_by (tx_events h) s snap) kept.entries → map (renumbered (own_number kept.entries)) (filter (is_flagged flags) (by_place kept.entries)) ≡ entries_shown h s snap
shown_flagged kept h s snap flags sound st are =
    passed_meet (is_flagged flags) (is_shown h s snap) kept.entries (λ k lt. flag_is (shown_by (tx_events h) s snap) kept.entries flags k are lt ∙ shown_told kept h s k snap st lt)
    ∙ shown_kept kept h s snap sound st

-- ---- the first entry that passes

pub found_agree : (f : StoredEntry → Bool) (p : Entry → Bool) (xs : List StoredEntry) → ((k : ℕ) → k < length xs → f (get_or xs k no_entry) ≡ p (get_or xs k no_entry).entry) → option_map entry_in (find f xs) ≡ find p (map entry_in xs)
found_agree f p [] same = refl
found_agree f p (x ∷ xs) same =
    let rest = found_agree f p xs (λ k lt. same (suc k) (omega (arith, lt))) in
    let first : f x ≡ p x.entry = same 0 (omega arith) in
    elim (cases_Bool (p x.entry)) [
      | inl y ↦ rw (first, y) refl
      | inr n ↦ rw (first, n) rest
    ]

pub find_filter : (p q : Entry → Bool) (xs : List Entry) → find (λ e. p e && q e) xs ≡ find p (filter q xs)
find_filter p q [] = refl
find_filter p q (x ∷ xs) = elim (cases_Bool (q x)) [
  | inl y ↦ elim (cases_Bool (p x)) [ inl u ↦ rw (y, u) refl | inr v ↦ rw (y, v) (find_filter p q xs) ]
  | inr n ↦ elim (cases_Bool (p x)) [ inl u ↦ rw (u, n) (find_filter p q xs) | inr v ↦ rw (v, n) (find_filter p q xs) ]
]

pub above_told : (kept : KeptCatalogue) (h : History) (s t : ℕ) → IsSound (tx_events h) → CatalogueStands kept h → option_map entry_in (find (above_by (tx_events h) s t) kept.entries) ≡ above (entries_present h s) t
above_told kept h s t sound st =
    found_agree (above_by (tx_events h) s t) (λ e. is_over t e && is_present h s e) kept.entries (λ k lt. ap (λ b. is_over t (get_or kept.entries k no_entry).entry && b) (present_told kept h s k st lt))
    ∙ find_filter (is_over t) (is_present h s) (map entry_in kept.entries)
    ∙ ap (find (is_over t)) (present_kept kept h s sound st)

last_false : (a b : Bool) → b ≡ false → a && b ≡ false
last_false true b f = f
last_false false b f = refl

pub pending_entry_told : (kept : KeptCatalogue) (h : History) (s t : ℕ) → IsSound (tx_events h) → CatalogueStands kept h → option_map entry_in (find (pending_below (tx_events h) s t) kept.entries) ≡ pending_entry h s t
pending_entry_told kept h s t sound st =
    found_agree (pending_below (tx_events h) s t) (is_pending_below h s t) kept.entries (λ k lt. ap (λ b. ((get_or kept.entries k no_entry).entry.parent.number == t) && b) (pending_told kept h s k st lt))
    ∙ thin_find (IsGone h) (is_pending_below h s t) (λ e gone. last_false (e.parent.number == t) (is_pending h s e) (let off = hidden h s sound st.sound e gone in rw off refl)) (entries_added (catalogue_events h)) (map entry_in kept.entries) st.entries

-- ---- what is shown is a part of what is present

filter_within : (p q : Entry → Bool) (xs : List Entry) → ((k : ℕ) → k < length xs → p (get_or xs k no_entry.entry) ≡ true → q (get_or xs k no_entry.entry) ≡ true) → filter p xs ≡ filter p (filter q xs)
filter_within p q [] part = refl
filter_within p q (x ∷ xs) part =
    let rest = filter_within p q xs (λ k lt. part (suc k) (omega (arith, lt))) in
    elim (cases_Bool (p x)) [
      | inl y ↦ let z : q x ≡ true = part 0 (omega arith) y in rw (y, z, y) (ap (λ es. x ∷ es) rest)
      | inr n ↦ elim (cases_Bool (q x)) [ inl u ↦ rw (n, u, n) rest | inr v ↦ rw (n, v) rest ]
    ]

-- the entry at a place is there, told from its own number
abbrev there_at : (h : History) (s : ℕ) (entries : List StoredEntry) → Entry → Bool
there_at h s entries e = is_present h s (renumbered (own_number entries) e)

pub shown_siblings : (kept : KeptCatalogue) (h : History) (s : ℕ) (flags : List Bool) → IsSound (tx_events h) → CatalogueStands kept h → AreSiblings (entries_present h s) → ((k : ℕ) → get_or flags k false ≡ true → present_by (tx_events h) s (get_or kept.entries k no_entry) ≡ true) → AreSiblings (filter (is_flagged flags) (by_place kept.entries))
shown_siblings kept h s flags sound st siblings part =
    let all = by_place kept.entries in
    let q = there_at h s kept.entries in
    let within : (k : ℕ) → k < length all → is_flagged flags (get_or all k no_entry.entry) ≡ true → q (get_or all k no_entry.entry) ≡ true = λ k lt flag.
    let here : k < length kept.entries = omega (arith, lt, length_by_place kept.entries) in
    let at = at_by_place kept.entries k no_entry.entry here in
    let set : get_or flags k false ≡ true = ap (is_flagged flags) (sym at) ∙ flag in
    ap q at ∙ sym (present_told kept h s k st here) ∙ part k set in
    let there : AreSiblings (filter q all) = siblings_before (own_number kept.entries) (filter q all) (subst AreSiblings (sym (passed_meet q (is_present h s) kept.entries (λ k lt. refl) ∙ present_kept kept h s sound st)) siblings) in
    subst AreSiblings (sym (filter_within (is_flagged flags) q all within)) (siblings_kept (is_flagged flags) (filter q all) there)

pub present_siblings : (kept : KeptCatalogue) (h : History) (s : ℕ) (flags : List Bool) → IsSound (tx_events h) → CatalogueStands kept h → AreSiblings (entries_present h s) → flags ≡ map (present_by (tx_events h) s) kept.entries → AreSiblings (filter (is_flagged flags) (by_place kept.entries))
present_siblings kept h s flags sound st siblings are = siblings_before (own_number kept.entries) (filter (is_flagged flags) (by_place kept.entries)) (subst AreSiblings (sym (present_flagged kept h s flags sound st are)) siblings)

-- ---- a loop that writes a flag for each entry

pub part_step : (p : StoredEntry → Bool) (flags more : List Bool) (xs : List StoredEntry) (i : ℕ) (x : StoredEntry) (b : Bool) → length flags ≡ i → i < length xs → x ≡ get_or xs i x → more ≡ flags ++ b ∷ [] → (b ≡ true → p x ≡ true) → ((k : ℕ) → get_or flags k false ≡ true → p (get_or xs k no_entry) ≡ true) → (k : ℕ) → get_or more k false ≡ true → p (get_or xs k no_entry) ≡ true
part_step p flags more xs i x b count lt at put here old k set = elim (cases_lt k i) [
  | inl before ↦
      let same : get_or (flags ++ b ∷ []) k false ≡ get_or flags k false = grind (arith, common_steps, elements, count) in
      old k (sym same ∙ ap (λ l. get_or l k false) (sym put) ∙ set)
  | inr later ↦ elim (cases_lt i k) [
    | inl past ↦
        let none : get_or (flags ++ b ∷ []) k false ≡ false = grind (arith, common_steps, elements, count) in
        let wrong : false ≡ true = sym none ∙ ap (λ l. get_or l k false) (sym put) ∙ set in
        absurd (cc)
    | inr now ↦
        let is : k ≡ i = omega (arith, later, now) in
        let last : get_or (flags ++ b ∷ []) k false ≡ b = grind (arith, common_steps, elements, count, is) in
        let there : get_or xs k no_entry ≡ x = grind (arith, common_steps, elements, at, is) in
        ap p there ∙ here (sym last ∙ ap (λ l. get_or l k false) (sym put) ∙ set)
  ]
]

pub map_step : {X : Type 0} (f : StoredEntry → X) (done more : List X) (xs : List StoredEntry) (i : ℕ) (x : StoredEntry) (y : X) → i < length xs → x ≡ get_or xs i x → more ≡ done ++ y ∷ [] → y ≡ f x → done ++ map f (drop i xs) ≡ map f xs → more ++ map f (drop (i + 1) xs) ≡ map f xs
map_step f done more xs i x y lt at put is told = grind (arith, common_steps, elements)

-- ---- the mark of a pending entry

pub find_at : (p : StoredEntry → Bool) (xs : List StoredEntry) (x : StoredEntry) → find p xs ≡ Some x → (k : ℕ) × (k < length xs) × (get_or xs k no_entry ≡ x) × (p x ≡ true)
find_at p [] x is = absurd (cc)
find_at p (y ∷ ys) x is = elim (cases_Bool (p y)) [
  | inl t ↦ let same : y ≡ x = let e : Some y ≡ Some x = rw t at is in cc in (0, omega arith, same, ap p (sym same) ∙ t)
  | inr f ↦ let r = find_at p ys x (rw f at is) in (suc r.0, omega (arith, r.1), r.2, r.3)
]

live_mark : (txs : TxEvents) (s : ℕ) (o : Option Stamp) → stamp_counts txs s (standing txs o) ≡ true → standing txs o ≡ o
live_mark txs s None counts = refl
live_mark txs s (Some m) counts = elim (cases_Bool (was_aborted txs m.by.number)) [
  | inl y ↦ let none : standing txs (Some m) ≡ None = rw y refl in let wrong : false ≡ true = ap (stamp_counts txs s) (sym none) ∙ counts in absurd (cc)
  | inr n ↦ rw n refl
]

right_of : (a b c : Bool) → a && (b && c) ≡ true → c ≡ true
right_of true true true e = refl
right_of true true false e = absurd (cc)
right_of true false c e = absurd (cc)
right_of false b c e = absurd (cc)

pub marker_is : (kept : KeptCatalogue) (h : History) (s t : ℕ) (x : StoredEntry) → IsSound (tx_events h) → CatalogueStands kept h → Some x ≡ find (pending_below (tx_events h) s t) kept.entries → option_map (λ m. m.by) x.marked ≡ marker_told h (pending_entry h s t)
marker_is kept h s t x sound st is =
    let at = find_at (pending_below (tx_events h) s t) kept.entries x (sym is) in
    let counts : stamp_counts (tx_events h) s (standing (tx_events h) x.marked) ≡ true = right_of (x.entry.parent.number == t) (present_by (tx_events h) s x) (stamp_counts (tx_events h) s (standing (tx_events h) x.marked)) at.3 in
    let live = live_mark (tx_events h) s x.marked counts in
    let told : standing (tx_events h) x.marked ≡ counted_of (tx_events h) (marks (catalogue_events h)) x.entry.id.number =
    subst (λ (y : StoredEntry). standing (tx_events h) y.marked ≡ counted_of (tx_events h) (marks (catalogue_events h)) y.entry.id.number) at.2 (mark_told kept h at.0 st at.1) in
    let found : Some x.entry ≡ pending_entry h s t = ap (option_map entry_in) is ∙ pending_entry_told kept h s t sound st in
    ap (option_map (λ (m : Stamp). m.by)) (sym live ∙ told) ∙ ap (marker_told h) found

pub no_marker_is : (kept : KeptCatalogue) (h : History) (s t : ℕ) → IsSound (tx_events h) → CatalogueStands kept h → None ≡ find (pending_below (tx_events h) s t) kept.entries → None ≡ marker_told h (pending_entry h s t)
no_marker_is kept h s t sound st is = ap (λ (o : Option StoredEntry). marker_told h (option_map entry_in o)) is ∙ ap (marker_told h) (pending_entry_told kept h s t sound st)
