-- The catalogue stands for the history with one event more.
use Rattle.std.proofs.Common.{◌≡◌, ◌≢◌, ℕ, zero, suc, ◌+◌, ◌==◌, ◌<◌, ◌≤◌, ◌++◌, arith, ap, refl, sym, subst, ◌∙◌, true, false, List, [], ◌∷◌, Option, Some, None, map, length, get_or, slice_set, inl, inr}
use Rattle.std.proofs.lemmas.Bool.{cases_Bool, cases_lt}
use Rattle.std.proofs.lemmas.Bool.Decides.{nat_tests}
use Rattle.std.proofs.lemmas.Grind.{common_steps, elements}
use Rattle.std.proofs.lemmas.List.{length-map, length-append, length-set, map-append}
use Rattle.history.specs.declared.catalogue.Table.{Table}
use Rattle.history.specs.declared.catalogue.Entry.{Entry}
use Rattle.history.specs.declared.catalogue.Check.{Check}
use Rattle.history.specs.declared.catalogue.Stamp.{Stamp}
use Rattle.history.specs.Catalogue.{TableMade, TableDropped, EntryAdded, EntryEnded, EntryMarked, CheckKept, tables_made, entries_added, drops, entry_ends, marks, newest_of, counted_of}
use Rattle.history.specs.History.{History, CatalogueChange, tx_events, catalogue_events}
use Rattle.history.specs.Places.{KeysLieIn, IsCatalogueSound, AreCatalogueSound, Suits}
use Rattle.part_catalog.specs.declared.stored.StoredTable.{StoredTable}
use Rattle.part_catalog.specs.declared.stored.StoredEntry.{StoredEntry}
use Rattle.part_catalog.specs.Forgotten.{IsGone, Thins}
use Rattle.part_catalog.specs.Kept.{KeptCatalogue, with_table, with_entry, with_check, with_drop, with_end, with_mark, fresh, table_in, name_in, entry_in, no_entry, no_stored}
use Rattle.part_catalog.specs.Stands.{CatalogueStands}
use Rattle.part_catalog.proofs.Forgotten.{ended_gone, thin_more, thin_weaker}
use Rattle.part_catalog.proofs.Rising.{kept_rise, numbers_tell, number_given}

pub made_stands : (kept : KeptCatalogue) (h : History) (t : Table) → t.id.number ≡ length kept.tables → KeysLieIn t.columns t.shape → CatalogueStands kept h → CatalogueStands (with_table kept t) (CatalogueChange (TableMade t) ∷ h)
made_stands kept h t number keys st =
    let count : length kept.tables ≡ length (tables_made (catalogue_events h)) = sym (length-map kept.tables table_in) ∙ ap length st.tables in
    record {
      sound = ((number ∙ count, keys), st.sound);
      tables = map-append table_in kept.tables ((record { table = t; dropped = None }) ∷ []) ∙ ap (λ ts. ts ++ t ∷ []) st.tables;
      drops = λ k. grind (arith, common_steps, elements, st.drops k);
      added = st.added;
      entries = st.entries;
      ends = st.ends;
      marks = st.marks;
      checks = st.checks;
    }

pub kept_stands : (kept : KeptCatalogue) (h : History) (c : Check) → IsCatalogueSound (CheckKept c) h → CatalogueStands kept h → CatalogueStands (with_check kept c) (CatalogueChange (CheckKept c) ∷ h)
kept_stands kept h c sound st = record {
  sound = (sound, st.sound);
  tables = st.tables;
  drops = st.drops;
  added = st.added;
  entries = st.entries;
  ends = st.ends;
  marks = st.marks;
  checks = ap (λ cs. cs ++ c ∷ []) st.checks;
}

-- ---- after a table was dropped, an entry ended or marked

pub same_tables : (xs : List StoredTable) (k : ℕ) (s : Option Stamp) → k < length xs → map table_in (slice_set xs k (record { table = (get_or xs k no_stored).table; dropped = s })) ≡ map table_in xs
same_tables [] k s lt = refl
same_tables (x ∷ xs) zero s lt = refl
same_tables (x ∷ xs) (suc k) s lt = ap (λ ts. x.table ∷ ts) (same_tables xs k s (omega (arith, lt)))

pub same_entries : (xs : List StoredEntry) (k : ℕ) (end mark : Option Stamp) → k < length xs → map entry_in (slice_set xs k (record { entry = (get_or xs k no_entry).entry; ended = end; marked = mark })) ≡ map entry_in xs
same_entries [] k end mark lt = refl
same_entries (x ∷ xs) zero end mark lt = refl
same_entries (x ∷ xs) (suc k) end mark lt = ap (λ es. x.entry ∷ es) (same_entries xs k end mark (omega (arith, lt)))

pub dropped_stands : (kept : KeptCatalogue) (h : History) (k : ℕ) (s : Stamp) → k < length kept.tables → counted_of (tx_events h) (drops (catalogue_events h)) k ≡ None → CatalogueStands kept h → CatalogueStands (with_drop kept k s) (CatalogueChange (TableDropped k s) ∷ h)
dropped_stands kept h k s lt none st =
    let count : length kept.tables ≡ length (tables_made (catalogue_events h)) = sym (length-map kept.tables table_in) ∙ ap length st.tables in
    record {
      sound = ((omega (arith, lt, count), none), st.sound);
      tables = same_tables kept.tables k (Some s) lt ∙ st.tables;
      drops = λ n. grind (arith, common_steps, elements, st.drops n);
      added = st.added;
      entries = st.entries;
      ends = st.ends;
      marks = st.marks;
      checks = st.checks;
    }

-- what is written at the place of one entry

here_or_there : (xs : List StoredEntry) (k n : ℕ) (y : StoredEntry) (P : StoredEntry → Type 0) → k < length xs → P y → (n ≢ k → P (get_or xs n no_entry)) → P (get_or (slice_set xs k y) n no_entry)
here_or_there xs k n y P lt here there = elim (cases_Bool (n == k)) [
  | inl same ↦
      let at : n ≡ k = grind (arith, nat_tests, same) in
      let is : get_or (slice_set xs k y) n no_entry ≡ y = grind (arith, common_steps, elements, at, lt) in
      subst P (sym is) here
  | inr apart ↦
      let other : n ≢ k = grind (arith, nat_tests, apart) in
      let is : get_or (slice_set xs k y) n no_entry ≡ get_or xs n no_entry = grind (arith, common_steps, elements, other) in
      subst P (sym is) (there other)
]

-- the number of an entry at another place is another
other_number : (kept : KeptCatalogue) (h : History) (k n : ℕ) → CatalogueStands kept h → k < length kept.entries → n < length kept.entries → n ≢ k → ((get_or kept.entries k no_entry).entry.id.number == (get_or kept.entries n no_entry).entry.id.number) ≡ false
other_number kept h k n st lt le other =
    let off : (k == n) ≡ false = grind (arith, nat_tests, other) in
    numbers_tell kept.entries 0 (length (entries_added (catalogue_events h))) n k (kept_rise kept h st) le lt ∙ off

pub ended_stands : (kept : KeptCatalogue) (h : History) (k : ℕ) (s : Stamp) → k < length kept.entries → counted_of (tx_events h) (entry_ends (catalogue_events h)) (get_or kept.entries k no_entry).entry.id.number ≡ None → CatalogueStands kept h → CatalogueStands (with_end kept k s) (CatalogueChange (EntryEnded (get_or kept.entries k no_entry).entry.id.number s) ∷ h)
ended_stands kept h k s lt none st =
    let x : StoredEntry = get_or kept.entries k no_entry in
    let number : ℕ = x.entry.id.number in
    let new : StoredEntry = record { entry = x.entry; ended = Some s; marked = x.marked } in
    let more : History = CatalogueChange (EntryEnded number s) ∷ h in
    let all = entries_added (catalogue_events h) in
    let same : map entry_in (slice_set kept.entries k new) ≡ map entry_in kept.entries = same_entries kept.entries k (Some s) x.marked lt in
    let thin : Thins (IsGone more) all (map entry_in kept.entries) = thin_weaker (IsGone h) (IsGone more) (λ e gone. ended_gone h number s e st.sound none gone) all (map entry_in kept.entries) st.entries in
    let long : length (slice_set kept.entries k new) ≡ length kept.entries = length-set kept.entries k new in
    record {
      sound = ((number_given kept h k st lt, none), st.sound);
      tables = st.tables;
      drops = st.drops;
      added = st.added;
      entries = subst (Thins (IsGone more) all) (sym same) thin;
      ends = λ n within.
          let old : n < length kept.entries = omega (arith, within, long) in
          let Told : StoredEntry → Type 0 = λ y. y.ended ≡ newest_of (entry_ends (catalogue_events more)) y.entry.id.number in
          let first : (number == number) ≡ true = grind (arith, nat_tests) in
          here_or_there kept.entries k n new Told lt (rw first refl) (λ other. let off = other_number kept h k n st lt old other in rw off (st.ends n old));
      marks = λ n within.
          let old : n < length kept.entries = omega (arith, within, long) in
          here_or_there kept.entries k n new (λ y. y.marked ≡ newest_of (marks (catalogue_events h)) y.entry.id.number) lt (st.marks k lt) (λ other. st.marks n old);
      checks = st.checks;
    }

pub marked_stands : (kept : KeptCatalogue) (h : History) (k : ℕ) (s : Stamp) → k < length kept.entries → counted_of (tx_events h) (marks (catalogue_events h)) (get_or kept.entries k no_entry).entry.id.number ≡ None → CatalogueStands kept h → CatalogueStands (with_mark kept k s) (CatalogueChange (EntryMarked (get_or kept.entries k no_entry).entry.id.number s) ∷ h)
marked_stands kept h k s lt none st =
    let x : StoredEntry = get_or kept.entries k no_entry in
    let number : ℕ = x.entry.id.number in
    let new : StoredEntry = record { entry = x.entry; ended = x.ended; marked = Some s } in
    let more : History = CatalogueChange (EntryMarked number s) ∷ h in
    let all = entries_added (catalogue_events h) in
    let same : map entry_in (slice_set kept.entries k new) ≡ map entry_in kept.entries = same_entries kept.entries k x.ended (Some s) lt in
    let long : length (slice_set kept.entries k new) ≡ length kept.entries = length-set kept.entries k new in
    record {
      sound = ((number_given kept h k st lt, none), st.sound);
      tables = st.tables;
      drops = st.drops;
      added = st.added;
      entries = subst (Thins (IsGone h) all) (sym same) st.entries;
      ends = λ n within.
          let old : n < length kept.entries = omega (arith, within, long) in
          here_or_there kept.entries k n new (λ y. y.ended ≡ newest_of (entry_ends (catalogue_events h)) y.entry.id.number) lt (st.ends k lt) (λ other. st.ends n old);
      marks = λ n within.
          let old : n < length kept.entries = omega (arith, within, long) in
          let Told : StoredEntry → Type 0 = λ y. y.marked ≡ newest_of (marks (catalogue_events more)) y.entry.id.number in
          let first : (number == number) ≡ true = grind (arith, nat_tests) in
          here_or_there kept.entries k n new Told lt (rw first refl) (λ other. let off = other_number kept h k n st lt old other in rw off (st.marks n old));
      checks = st.checks;
    }

last_or_before : (xs : List StoredEntry) (y : StoredEntry) (n : ℕ) (P : StoredEntry → Type 0) → n < length xs + 1 → P y → (n < length xs → P (get_or xs n no_entry)) → P (get_or (xs ++ y ∷ []) n no_entry)
last_or_before xs y n P lt last before = elim (cases_lt n (length xs)) [
  | inl old ↦
      let is : get_or (xs ++ y ∷ []) n no_entry ≡ get_or xs n no_entry = grind (arith, common_steps, elements, old) in
      subst P (sym is) (before old)
  | inr new ↦
      let at : n ≡ length xs = omega (arith, lt, new) in
      let is : get_or (xs ++ y ∷ []) n no_entry ≡ y = grind (arith, common_steps, elements, at) in
      subst P (sym is) last
]

-- a number that was not given yet has no end and no mark
no_end : (h : History) (k : ℕ) → length (entries_added (catalogue_events h)) ≤ k → AreCatalogueSound h → newest_of (entry_ends (catalogue_events h)) k ≡ None
no_end [] k le sound = refl
no_end (CatalogueChange (EntryAdded e) ∷ h) k le sound = no_end h k (omega (arith, le, length-append (entries_added (catalogue_events h)) (e ∷ []))) sound.1
no_end (CatalogueChange (EntryEnded n s) ∷ h) k le sound =
    let given : n < length (entries_added (catalogue_events h)) = sound.0.0 in
    let other : (n == k) ≡ false = grind (arith, nat_tests, given, le) in
    rw other (no_end h k le sound.1)
no_end (CatalogueChange e ∷ h) k le sound = no_end h k le sound.1
no_end (_ ∷ h) k le sound = no_end h k le sound

no_mark : (h : History) (k : ℕ) → length (entries_added (catalogue_events h)) ≤ k → AreCatalogueSound h → newest_of (marks (catalogue_events h)) k ≡ None
no_mark [] k le sound = refl
no_mark (CatalogueChange (EntryAdded e) ∷ h) k le sound = no_mark h k (omega (arith, le, length-append (entries_added (catalogue_events h)) (e ∷ []))) sound.1
no_mark (CatalogueChange (EntryMarked n s) ∷ h) k le sound =
    let given : n < length (entries_added (catalogue_events h)) = sound.0.0 in
    let other : (n == k) ≡ false = grind (arith, nat_tests, given, le) in
    rw other (no_mark h k le sound.1)
no_mark (CatalogueChange e ∷ h) k le sound = no_mark h k le sound.1
no_mark (_ ∷ h) k le sound = no_mark h k le sound

pub added_stands : (kept : KeptCatalogue) (h : History) (e : Entry) → e.id.number ≡ kept.added → Suits (tables_made (catalogue_events h)) e → CatalogueStands kept h → CatalogueStands (with_entry kept e) (CatalogueChange (EntryAdded e) ∷ h)
added_stands kept h e number suits st =
    let all = entries_added (catalogue_events h) in
    let more : length (all ++ e ∷ []) ≡ length all + 1 = omega (arith, length-append all (e ∷ [])) in
    let long : length (kept.entries ++ fresh e ∷ []) ≡ length kept.entries + 1 = omega (arith, length-append kept.entries (fresh e ∷ [])) in
    let same : map entry_in (kept.entries ++ fresh e ∷ []) ≡ map entry_in kept.entries ++ e ∷ [] = map-append entry_in kept.entries (fresh e ∷ []) in
    let count : kept.added + 1 ≡ length all + 1 = omega (arith, st.added) in
    let next : length all ≤ e.id.number = omega (arith, number, st.added) in
    record {
      sound = ((number ∙ st.added, suits), st.sound);
      tables = st.tables;
      drops = st.drops;
      added = count ∙ sym more;
      entries = subst (Thins (IsGone h) (all ++ e ∷ [])) (sym same) (thin_more (IsGone h) all (map entry_in kept.entries) e st.entries);
      ends = λ n within. last_or_before kept.entries (fresh e) n (λ y. y.ended ≡ newest_of (entry_ends (catalogue_events h)) y.entry.id.number) (omega (arith, within, long)) (sym (no_end h e.id.number next st.sound)) (λ lt. st.ends n lt);
      marks = λ n within. last_or_before kept.entries (fresh e) n (λ y. y.marked ≡ newest_of (marks (catalogue_events h)) y.entry.id.number) (omega (arith, within, long)) (sym (no_mark h e.id.number next st.sound)) (λ lt. st.marks n lt);
      checks = st.checks;
    }

pub same_names : (xs : List StoredTable) (k : ℕ) (s : Option Stamp) → k < length xs → map name_in (slice_set xs k (record { table = (get_or xs k no_stored).table; dropped = s })) ≡ map name_in xs
same_names [] k s lt = refl
same_names (x ∷ xs) zero s lt = refl
same_names (x ∷ xs) (suc k) s lt = ap (λ ns. x.table.name ∷ ns) (same_names xs k s (omega (arith, lt)))
