-- Entries that are taken out: the others at their new places.
use Rattle.std.proofs.Common.{◌≡◌, ℕ, suc, ◌+◌, ◌<◌, ◌||◌, not, arith, ap, refl, sym, subst, ◌∙◌, Bool, true, false, List, [], ◌∷◌, Option, Some, None, is_some, filter, map, length, get_or, inl, inr, ◌++◌, append_assoc, append-nil, add-one, drop, drop-cons}
use Rattle.std.specs.List.{All}
use Rattle.std.proofs.lemmas.Bool.{cases_Bool}
use Rattle.std.proofs.lemmas.Grind.{common_steps, elements}
use Rattle.std.proofs.lemmas.List.{get_or-map, length-map}
use Rattle.std.proofs.lemmas.List.Elements.{All-filter, All-head, All-tail}
use Rattle.history.specs.declared.transaction.Fate.{Fate}
use Rattle.history.specs.declared.catalogue.Entry.{Entry}
use Rattle.history.specs.declared.catalogue.Stamp.{Stamp}
use Rattle.history.specs.Transactions.{TxEvents, fate, was_aborted, was_committed, is_committed}
use Rattle.history.specs.Catalogue.{entries_added, entry_ends, marks, newest_of}
use Rattle.history.specs.History.{History, tx_events, catalogue_events}
use Rattle.tx_table.specs.Kept.{KeptTable}
use Rattle.tx_table.specs.Stands.{TableStands}
use Rattle.row_router.specs.Histories.{children}
use Rattle.row_router.proofs.Order.{children_of_part}
use Rattle.part_catalog.specs.declared.names.Names.{Names}
use Rattle.part_catalog.specs.declared.stored.StoredTable.{StoredTable}
use Rattle.part_catalog.specs.declared.stored.StoredEntry.{StoredEntry}
use Rattle.part_catalog.specs.Forgotten.{IsGone, Thins, is_gone, is_over}
use Rattle.part_catalog.specs.Kept.{KeptCatalogue, IsBetween, IsKept, entry_in, no_entry, number_of, with_place, placed_from, by_place}
use Rattle.part_catalog.specs.Moved.{moved, moved_to, places_left}
use Rattle.part_catalog.specs.Stands.{CatalogueStands, gone_by, is_aborted, over_by, stays_by}
use Rattle.part_catalog.proofs.Renumbered.{renumbered, children_anew}

-- ---- places

abbrev has_place : List (Option ℕ) → Entry → Bool
has_place places e = is_some (get_or places e.id.number None)

abbrev or_zero : Option ℕ → ℕ
or_zero None = 0
or_zero (Some k) = k

abbrev new_number : List (Option ℕ) → ℕ → ℕ
new_number places n = or_zero (get_or places n None)

stay_from : (stays : StoredEntry → Bool) (places : List (Option ℕ)) (n k : ℕ) (xs : List StoredEntry) → ((i : ℕ) → i < length xs → get_or places (n + i) None ≡ get_or (places_left stays k xs) i None) → placed_from k (filter stays xs) ≡ map (renumbered (new_number places)) (filter (has_place places) (placed_from n xs))
stay_from stays places n k [] same = refl
stay_from stays places n k (x ∷ xs) same =
    let first : n ≡ n + 0 = omega arith in
    let next : (i : ℕ) → suc n + i ≡ n + suc i = λ i. omega arith in
    elim (cases_Bool (stays x)) [
      | inl y ↦
          let told : get_or (places_left stays k (x ∷ xs)) 0 None ≡ Some k = rw y refl in
          let here : get_or places n None ≡ Some k = ap (λ i. get_or places i None) first ∙ same 0 (omega arith) ∙ told in
          let has : has_place places (with_place n x.entry) ≡ true = ap is_some here in
          let number : new_number places n ≡ k = ap or_zero here in
          let rest = stay_from stays places (suc n) (suc k) xs (λ i lt. let tail : get_or (places_left stays k (x ∷ xs)) (suc i) None ≡ get_or (places_left stays (suc k) xs) i None = rw y refl in ap (λ j. get_or places j None) (next i) ∙ same (suc i) (omega (arith, lt)) ∙ tail) in
          rw (y, has) (ap (λ j. with_place j x.entry ∷ placed_from (suc k) (filter stays xs)) (sym number) ∙ ap (λ es. renumbered (new_number places) (with_place n x.entry) ∷ es) rest)
      | inr o ↦
          let told : get_or (places_left stays k (x ∷ xs)) 0 None ≡ None = rw o refl in
          let here : get_or places n None ≡ None = ap (λ i. get_or places i None) first ∙ same 0 (omega arith) ∙ told in
          let has : has_place places (with_place n x.entry) ≡ false = ap is_some here in
          let rest = stay_from stays places (suc n) k xs (λ i lt. let tail : get_or (places_left stays k (x ∷ xs)) (suc i) None ≡ get_or (places_left stays k xs) i None = rw o refl in ap (λ j. get_or places j None) (next i) ∙ same (suc i) (omega (arith, lt)) ∙ tail) in
          rw (o, has) rest
    ]

stay_by_place : (stays : StoredEntry → Bool) (places : List (Option ℕ)) (xs : List StoredEntry) → places ≡ places_left stays 0 xs → by_place (filter stays xs) ≡ map (renumbered (new_number places)) (filter (has_place places) (by_place xs))
stay_by_place stays places xs are = stay_from stays places 0 0 xs (λ i lt. let same : 0 + i ≡ i = omega arith in ap (λ j. get_or places j None) same ∙ ap (λ ps. get_or ps i None) are)

moved_kids : (places : List (Option ℕ)) (kids : List Entry) → moved places (map number_of kids) ≡ map number_of (map (renumbered (new_number places)) (filter (has_place places) kids))
moved_kids places [] = refl
moved_kids places (e ∷ es) = by (get_or places e.id.number None) refl (moved_kids places es)
  where
    by : (o : Option ℕ) → get_or places e.id.number None ≡ o → moved places (map number_of es) ≡ map number_of (map (renumbered (new_number places)) (filter (has_place places) es))
        → moved places (map number_of (e ∷ es)) ≡ map number_of (map (renumbered (new_number places)) (filter (has_place places) (e ∷ es)))
    by None is rest =
        let has : has_place places e ≡ false = ap is_some is in
        let here : moved places (map number_of (e ∷ es)) ≡ moved places (map number_of es) = ap (λ o. moved_to o (moved places (map number_of es))) is in
        rw has (here ∙ rest)
    by (Some k) is rest =
        let has : has_place places e ≡ true = ap is_some is in
        let number : new_number places e.id.number ≡ k = ap or_zero is in
        let here : moved places (map number_of (e ∷ es)) ≡ k ∷ moved places (map number_of es) = ap (λ o. moved_to o (moved places (map number_of es))) is in
        rw has (here ∙ ap (λ n. n ∷ moved places (map number_of es)) (sym number) ∙ ap (λ ns. new_number places e.id.number ∷ ns) rest)

below_left : (stays : StoredEntry → Bool) (places : List (Option ℕ)) (xs : List StoredEntry) (t : ℕ) (list : List ℕ) → places ≡ places_left stays 0 xs → list ≡ map number_of (children (by_place xs) t) → moved places list ≡ map number_of (children (by_place (filter stays xs)) t)
below_left stays places xs t list are is =
    let g = new_number places in
    let all = by_place xs in
    ap (moved places) is
    ∙ moved_kids places (children all t)
    ∙ ap (λ kids. map number_of (map (renumbered g) kids)) (children_of_part (has_place places) all t)
    ∙ ap (map number_of) (sym (children_anew g (filter (has_place places) all) t))
    ∙ ap (λ es. map number_of (children es t)) (sym (stay_by_place stays places xs are))

-- ---- what the loops keep

joined : (done rest : List ℕ) (o : Option ℕ) → (done ++ moved_to o []) ++ rest ≡ done ++ moved_to o rest
joined done rest None = ap (λ l. l ++ rest) (append-nil done)
joined done rest (Some k) = append_assoc done (k ∷ []) rest

pub move_step : (places : List (Option ℕ)) (done more numbers : List ℕ) (i : ℕ) (o : Option ℕ) (all : List ℕ) → i < length numbers → o ≡ get_or places (get_or numbers i 0) None → more ≡ done ++ moved_to o []
    → done ++ moved places (drop i numbers) ≡ all → more ++ moved places (drop (i + 1) numbers) ≡ all
move_step places done more numbers i o all lt is put h =
    let next : i + 1 ≡ suc i = add-one i in
    let split : drop i numbers ≡ get_or numbers i 0 ∷ drop (i + 1) numbers = rw next (drop-cons numbers i 0 lt) in
    let rest = moved places (drop (i + 1) numbers) in
    let here : moved places (drop i numbers) ≡ moved_to o rest = ap (moved places) split ∙ ap (λ p. moved_to p rest) (sym is) in
    ap (λ l. l ++ rest) put ∙ joined done rest o ∙ ap (λ l. done ++ l) (sym here) ∙ h

at_here : (xs : List StoredEntry) (i : ℕ) (x : StoredEntry) → i < length xs → x ≡ get_or xs i x → drop i xs ≡ x ∷ drop (i + 1) xs
at_here xs i x lt is = let next : i + 1 ≡ suc i = add-one i in rw next (drop-cons xs i x lt) ∙ ap (λ (y : StoredEntry). y ∷ drop (i + 1) xs) (sym is)

pub stay_step : (stays : StoredEntry → Bool) (done more : List (Option ℕ)) (xs : List StoredEntry) (i n : ℕ) (x : StoredEntry) (all : List (Option ℕ)) → i < length xs → x ≡ get_or xs i x → stays x ≡ true → more ≡ done ++ Some n ∷ []
    → done ++ places_left stays n (drop i xs) ≡ all → more ++ places_left stays (n + 1) (drop (i + 1) xs) ≡ all
stay_step stays done more xs i n x all lt is test put h =
    let next : n + 1 ≡ suc n = add-one n in
    let rest = places_left stays (n + 1) (drop (i + 1) xs) in
    let here : places_left stays n (x ∷ drop (i + 1) xs) ≡ Some n ∷ rest = rw (test, next) refl in
    ap (λ l. l ++ rest) put ∙ append_assoc done (Some n ∷ []) rest ∙ ap (λ l. done ++ l) (sym here) ∙ ap (λ l. done ++ places_left stays n l) (sym (at_here xs i x lt is)) ∙ h

pub go_step : (stays : StoredEntry → Bool) (done more : List (Option ℕ)) (xs : List StoredEntry) (i n : ℕ) (x : StoredEntry) (all : List (Option ℕ)) → i < length xs → x ≡ get_or xs i x → stays x ≡ false → more ≡ done ++ None ∷ []
    → done ++ places_left stays n (drop i xs) ≡ all → more ++ places_left stays n (drop (i + 1) xs) ≡ all
go_step stays done more xs i n x all lt is test put h =
    let rest = places_left stays n (drop (i + 1) xs) in
    let here : places_left stays n (x ∷ drop (i + 1) xs) ≡ None ∷ rest = rw test refl in
    ap (λ l. l ++ rest) put ∙ append_assoc done (None ∷ []) rest ∙ ap (λ l. done ++ l) (sym here) ∙ ap (λ l. done ++ places_left stays n l) (sym (at_here xs i x lt is)) ∙ h

-- ---- what is kept

all_of : (P : StoredEntry → Type 0) (xs : List StoredEntry) → ((k : ℕ) → k < length xs → P (get_or xs k no_entry)) → All P xs
all_of P xs h k d lt = let same : get_or xs k no_entry ≡ get_or xs k d = grind (arith, common_steps, elements, lt) in subst P same (h k lt)

pub kept_left : (stays : StoredEntry → Bool) (places : List (Option ℕ)) (tables : List StoredTable) (entries : List StoredEntry) (numbers : List (List ℕ)) (names : Names) → places ≡ places_left stays 0 entries → IsKept tables entries numbers names → IsKept tables (filter stays entries) (map (moved places) numbers) names
kept_left stays places tables entries numbers names are k = record {
  listed = record {
    between = λ i lt. All-filter stays (IsBetween tables) entries (all_of (IsBetween tables) entries k.listed.between) i no_entry lt;
    count = length-map numbers (moved places) ∙ k.listed.count;
    below = λ t lt.
        let within : t < length numbers = omega (arith, lt, k.listed.count) in
        get_or-map (moved places) numbers t [] [] within ∙ below_left stays places entries t (get_or numbers t []) are (k.listed.below t lt);
  };
  few = k.few;
  named = k.named;
}

-- ---- it stands for the same history

aborted_told : (txs : TxEvents) (t : ℕ) → is_aborted (fate txs t) ≡ was_aborted txs t
aborted_told txs t = elim (cases_Bool (was_aborted txs t)) [
  | inl y ↦ rw y refl
  | inr n ↦ elim (cases_Bool (was_committed txs t)) [ inl c ↦ rw (n, c) refl | inr d ↦ rw (n, d) refl ]
]

over_told : (table : KeptTable) (h : History) (o : Option Stamp) → TableStands table h → over_by table o ≡ is_over (tx_events h) o
over_told table h None st = refl
over_told table h (Some s) st = ap is_committed (st.fates s.by.number)

gone_told : (table : KeptTable) (h : History) (x : StoredEntry) → TableStands table h → x.ended ≡ newest_of (entry_ends (catalogue_events h)) x.entry.id.number → gone_by table x ≡ is_gone h x.entry
gone_told table h x st end =
    let txs = tx_events h in
    ap (λ (f : Fate). is_aborted f || over_by table x.ended) (st.fates x.entry.by.number)
    ∙ ap (λ b. b || over_by table x.ended) (aborted_told txs x.entry.by.number)
    ∙ ap (λ b. was_aborted txs x.entry.by.number || b) (over_told table h x.ended st ∙ ap (is_over txs) end)

not_false : (b : Bool) → not b ≡ false → b ≡ true
not_false true e = refl
not_false false e = absurd (cc)

-- what stays, or is gone
abbrev MayGo : (Entry → Type 0) → (StoredEntry → Bool) → StoredEntry → Type 0
MayGo P stays x = stays x ≡ false → P x.entry

thin_part : (P : Entry → Type 0) (stays : StoredEntry → Bool) (all : List Entry) (xs : List StoredEntry) → Thins P all (map entry_in xs) → All (MayGo P stays) xs → Thins P all (map entry_in (filter stays xs))
thin_part P stays [] [] t may = t
thin_part P stays [] (y ∷ ys) t may = absurd t
thin_part P stays (e ∷ all) [] t may = elim t [
  | inl gone ↦ inl (gone.0, thin_part P stays all [] gone.1 may)
  | inr kept ↦ let wrong : [] ≡ e ∷ kept.0 = kept.1 in absurd (cc)
]
thin_part P stays (e ∷ all) (y ∷ ys) t may = elim t [
  | inl gone ↦ inl (gone.0, thin_part P stays all (y ∷ ys) gone.1 may)
  | inr kept ↦
      let both : y.entry ∷ map entry_in ys ≡ e ∷ kept.0 = kept.1 in
      let first : y.entry ≡ e = cc in
      let rest : map entry_in ys ≡ kept.0 = cc in
      let more = thin_part P stays all ys (subst (Thins P all) (sym rest) kept.2) (All-tail (MayGo P stays) y ys may) in
      elim (cases_Bool (stays y)) [
        | inl s ↦ rw s (inr (map entry_in (filter stays ys), ap (λ x. x ∷ map entry_in (filter stays ys)) first, more))
        | inr o ↦ rw o (inl (subst P first (All-head (MayGo P stays) y ys may o), more))
      ]
]

pub left_stands : (table : KeptTable) (kept : KeptCatalogue) (h : History) → TableStands table h → CatalogueStands kept h → CatalogueStands (record { tables = kept.tables; entries = filter (stays_by table) kept.entries; added = kept.added; checks = kept.checks }) h
left_stands table kept h txs st =
    let stays = stays_by table in
    let EndTold : StoredEntry → Type 0 = λ y. y.ended ≡ newest_of (entry_ends (catalogue_events h)) y.entry.id.number in
    let MarkTold : StoredEntry → Type 0 = λ y. y.marked ≡ newest_of (marks (catalogue_events h)) y.entry.id.number in
    let may : All (MayGo (IsGone h) stays) kept.entries = all_of (MayGo (IsGone h) stays) kept.entries (λ k lt off. sym (gone_told table h (get_or kept.entries k no_entry) txs (st.ends k lt)) ∙ not_false (gone_by table (get_or kept.entries k no_entry)) off) in
    record {
      sound = st.sound;
      tables = st.tables;
      drops = st.drops;
      added = st.added;
      entries = thin_part (IsGone h) stays (entries_added (catalogue_events h)) kept.entries st.entries may;
      ends = λ k lt. All-filter stays EndTold kept.entries (all_of EndTold kept.entries st.ends) k no_entry lt;
      marks = λ k lt. All-filter stays MarkTold kept.entries (all_of MarkTold kept.entries st.marks) k no_entry lt;
      checks = st.checks;
    }
