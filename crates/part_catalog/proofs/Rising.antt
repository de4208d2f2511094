-- The numbers of entries rise, also where some are forgotten.
use Rattle.std.proofs.Common.{◌≡◌, ℕ, zero, suc, ◌+◌, ◌==◌, ◌<◌, ◌≤◌, ◌++◌, arith, ap, sym, subst, ◌∙◌, true, false, List, [], ◌∷◌, map, length, get_or, inl, inr}
use Rattle.std.proofs.lemmas.Bool.{cases_lt}
use Rattle.std.proofs.lemmas.Bool.Decides.{nat_tests}
use Rattle.std.proofs.lemmas.List.{get_or-map, length-append, length-map}
use Rattle.history.specs.declared.catalogue.Entry.{Entry}
use Rattle.history.specs.Catalogue.{EntryAdded, entries_added}
use Rattle.history.specs.History.{History, CatalogueChange, catalogue_events}
use Rattle.history.specs.Places.{AreCatalogueSound}
use Rattle.part_catalog.specs.declared.stored.StoredEntry.{StoredEntry}
use Rattle.part_catalog.specs.Forgotten.{IsGone, Thins}
use Rattle.part_catalog.specs.Kept.{KeptCatalogue, entry_in, no_entry}
use Rattle.part_catalog.specs.Stands.{CatalogueStands}

-- the numbers rise from one to below another
abbrev pub Rise : (from to : ℕ) → List Entry → Type 0
Rise n m [] = n ≤ m
Rise n m (e ∷ es) = (n ≤ e.id.number) × Rise (suc e.id.number) m es

rise_earlier : (n k m : ℕ) (es : List Entry) → n ≤ k → Rise k m es → Rise n m es
rise_earlier n k m [] le h = omega (arith, le, h)
rise_earlier n k m (e ∷ es) le h = (omega (arith, le, h.0), h.1)

rise_more : (n m : ℕ) (es : List Entry) (e : Entry) → e.id.number ≡ m → Rise n m es → Rise n (m + 1) (es ++ e ∷ [])
rise_more n m [] e is h = (omega (arith, is, h), omega (arith, is))
rise_more n m (x ∷ xs) e is h = (h.0, rise_more (suc x.id.number) m xs e is h.1)

added_rise : (h : History) → AreCatalogueSound h → Rise 0 (length (entries_added (catalogue_events h))) (entries_added (catalogue_events h))
added_rise [] sound = omega arith
added_rise (CatalogueChange (EntryAdded e) ∷ h) sound =
    let all = entries_added (catalogue_events h) in
    let long : length (all ++ e ∷ []) ≡ length all + 1 = omega (arith, length-append all (e ∷ [])) in
    subst (λ m. Rise 0 m (all ++ e ∷ [])) (sym long) (rise_more 0 (length all) all e sound.0.0 (added_rise h sound.1))
added_rise (CatalogueChange e ∷ h) sound = added_rise h sound.1
added_rise (_ ∷ h) sound = added_rise h sound

thin_rise : (P : Entry → Type 0) (n m : ℕ) (xs ys : List Entry) → Thins P xs ys → Rise n m xs → Rise n m ys
thin_rise P n m [] [] t h = h
thin_rise P n m [] (y ∷ ys) t h = absurd t
thin_rise P n m (x ∷ xs) ys t h = elim t [
  | inl gone ↦ rise_earlier n (suc x.id.number) m ys (omega (arith, h.0)) (thin_rise P (suc x.id.number) m xs ys gone.1 h.1)
  | inr kept ↦
      let there : Rise n m (x ∷ kept.0) = (h.0, thin_rise P (suc x.id.number) m xs kept.0 kept.2 h.1) in
      subst (Rise n m) (sym kept.1) there
]

pub kept_rise : (kept : KeptCatalogue) (h : History) → CatalogueStands kept h → Rise 0 (length (entries_added (catalogue_events h))) (map entry_in kept.entries)
kept_rise kept h st = thin_rise (IsGone h) 0 (length (entries_added (catalogue_events h))) (entries_added (catalogue_events h)) (map entry_in kept.entries) st.entries (added_rise h st.sound)

-- ---- two places

rise_over : (n m : ℕ) (es : List Entry) → Rise n m es → n ≤ m
rise_over n m [] h = h
rise_over n m (e ∷ es) h = let rest : suc e.id.number ≤ m = rise_over (suc e.id.number) m es h.1 in omega (arith, h.0, rest)

rise_at : (n m : ℕ) (es : List Entry) (k : ℕ) (d : Entry) → k < length es → Rise n m es → (n ≤ (get_or es k d).id.number) × ((get_or es k d).id.number < m)
rise_at n m [] k d lt h = absurd (omega (arith, lt))
rise_at n m (e ∷ es) zero d lt h = let over : suc e.id.number ≤ m = rise_over (suc e.id.number) m es h.1 in (h.0, omega (arith, over))
rise_at n m (e ∷ es) (suc k) d lt h = let there = rise_at (suc e.id.number) m es k d (omega (arith, lt)) h.1 in (omega (arith, h.0, there.0), there.1)

rise_apart : (n m : ℕ) (es : List Entry) (i j : ℕ) (d : Entry) → i < j → j < length es → Rise n m es → (get_or es i d).id.number < (get_or es j d).id.number
rise_apart n m [] i j d lt le h = absurd (omega (arith, le))
rise_apart n m (e ∷ es) i zero d lt le h = absurd (omega (arith, lt))
rise_apart n m (e ∷ es) zero (suc j) d lt le h = let there = rise_at (suc e.id.number) m es j d (omega (arith, le)) h.1 in omega (arith, there.0)
rise_apart n m (e ∷ es) (suc i) (suc j) d lt le h = rise_apart (suc e.id.number) m es i j d (omega (arith, lt)) (omega (arith, le)) h.1

number_at : (xs : List StoredEntry) (k : ℕ) → k < length xs → (get_or (map entry_in xs) k no_entry.entry).id.number ≡ (get_or xs k no_entry).entry.id.number
number_at xs k lt = ap (λ (e : Entry). e.id.number) (get_or-map entry_in xs k no_entry no_entry.entry lt)

apart : (xs : List StoredEntry) (n m i j : ℕ) → Rise n m (map entry_in xs) → i < j → j < length xs → (get_or xs i no_entry).entry.id.number < (get_or xs j no_entry).entry.id.number
apart xs n m i j h lt le =
    let within : j < length (map entry_in xs) = omega (arith, le, length-map xs entry_in) in
    let there = rise_apart n m (map entry_in xs) i j no_entry.entry lt within h in
    let first = number_at xs i (omega (arith, lt, le)) in
    let second = number_at xs j le in
    omega (arith, there, first, second)

-- entries have different numbers where they stand at different places
pub numbers_tell : (xs : List StoredEntry) (n m i j : ℕ) → Rise n m (map entry_in xs) → i < length xs → j < length xs → ((get_or xs j no_entry).entry.id.number == (get_or xs i no_entry).entry.id.number) ≡ (j == i)
numbers_tell xs n m i j h a b =
    let number : ℕ → ℕ = λ k. (get_or xs k no_entry).entry.id.number in
    elim (cases_lt i j) [
      | inl less ↦
          let there : number i < number j = apart xs n m i j h less b in
          let off : (number j == number i) ≡ false = grind (arith, nat_tests, there) in
          let other : (j == i) ≡ false = grind (arith, nat_tests, less) in
          off ∙ sym other
      | inr over ↦ elim (cases_lt j i) [
        | inl more ↦
            let there : number j < number i = apart xs n m j i h more a in
            let off : (number j == number i) ≡ false = grind (arith, nat_tests, there) in
            let other : (j == i) ≡ false = grind (arith, nat_tests, more) in
            off ∙ sym other
        | inr least ↦
            let same : j ≡ i = omega (arith, over, least) in
            let on : (number j == number j) ≡ true = grind (arith, nat_tests) in
            let one : (j == i) ≡ true = grind (arith, nat_tests, same) in
            ap (λ k. number j == number k) (sym same) ∙ on ∙ sym one
      ]
    ]

-- and each was given before the next
pub number_given : (kept : KeptCatalogue) (h : History) (k : ℕ) → CatalogueStands kept h → k < length kept.entries → (get_or kept.entries k no_entry).entry.id.number < length (entries_added (catalogue_events h))
number_given kept h k st lt =
    let within : k < length (map entry_in kept.entries) = omega (arith, lt, length-map kept.entries entry_in) in
    let there = rise_at 0 (length (entries_added (catalogue_events h))) (map entry_in kept.entries) k no_entry.entry within (kept_rise kept h st) in
    let at = number_at kept.entries k lt in
    omega (arith, there.1, at)
