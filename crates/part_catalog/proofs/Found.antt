-- A table by its name: the walk from the newest table of the name to the older ones.
use Rattle.std.proofs.Common.{◌≡◌, ℕ, zero, suc, ◌+◌, ◌<◌, ◌&&◌, ◌++◌, arith, ap, refl, sym, subst, ◌∙◌, Bool, true, false, if◌then◌else◌, List, [], ◌∷◌, Option, Some, None, IfSome, map, length, get_or, inl, inr}
use Rattle.std.proofs.lemmas.Grind.{common_steps, elements}
use Rattle.std.proofs.lemmas.Bool.{cases_Bool, cases_lt}
use Rattle.std.proofs.lemmas.List.{get_or-map, length-map, length-append}
use Rattle.std.proofs.lemmas.Slice.Eq.{bytes_eq-Decides}
use Rattle.history.specs.declared.catalogue.Table.{Table}
use Rattle.history.specs.Catalogue.{TableMade, tables_made}
use Rattle.history.specs.History.{History, CatalogueChange, tx_events, catalogue_events}
use Rattle.history.specs.Places.{table_at, no_table, AreCatalogueSound}
use Rattle.history.specs.Presence.{is_there}
use Rattle.history.proofs.Stamps.{newest_drop_counts}
use Rattle.part_catalog.specs.declared.stored.StoredTable.{StoredTable}
use Rattle.part_catalog.specs.Kept.{KeptCatalogue, table_in, name_in, no_stored}
use Rattle.part_catalog.specs.Names.{last_below, has_name}
use Rattle.part_catalog.specs.Stands.{CatalogueStands, there_by, made_elsewhere_by}
use Rattle.part_catalog.specs.Found.{made_at, table_number, is_meant, resolved, is_made_elsewhere}
use Rattle.part_catalog.proofs.Keys.{last_agree}

-- ---- walks

-- the last number that passes, where the walk stands at a number or is over
abbrev pub from_here : (ℕ → Bool) → Option ℕ → Option ℕ
from_here p None = None
from_here p (Some j) = if p j then Some j else last_below p j

pub skip_others : (q p : ℕ → Bool) → ((k : ℕ) → q k ≡ false → p k ≡ false) → (n : ℕ) → last_below p n ≡ from_here p (last_below q n)
skip_others q p over zero = refl
skip_others q p over (suc n) = elim (cases_Bool (q n)) [
  | inl y ↦ rw y refl
  | inr f ↦ let g : p n ≡ false = over n f in rw (f, g) (skip_others q p over n)
]

pub last_is : (q : ℕ → Bool) (n j : ℕ) → last_below q n ≡ Some j → (j < n) × (q j ≡ true)
last_is q zero j is = absurd (cc)
last_is q (suc n) j is = elim (cases_Bool (q n)) [
  | inl y ↦ let same : n ≡ j = let e : Some n ≡ Some j = rw y at is in cc in (omega (arith, same), ap q (sym same) ∙ y)
  | inr f ↦ let r = last_is q n j (rw f at is) in (omega (arith, r.0), r.1)
]

-- what is kept of a table that the walk has come to
abbrev pub IsNamed : List StoredTable → List ℕ → ℕ → Type 0
IsNamed tables name j = (j < length tables) × (has_name (map name_in tables) name j ≡ true)

pub newest_named : (tables : List StoredTable) (name : List ℕ) (o : Option ℕ) → o ≡ last_below (has_name (map name_in tables) name) (length (map name_in tables)) → IfSome o (IsNamed tables name)
newest_named tables name None is = tt
newest_named tables name (Some j) is =
    let r = last_is (has_name (map name_in tables) name) (length (map name_in tables)) j (sym is) in
    (omega (arith, r.0, length-map tables name_in), r.1)

-- the names of two tables are one
pub same_chain : (tables : List StoredTable) (name : List ℕ) (j : ℕ) → IsNamed tables name j → last_below (has_name (map name_in tables) (get_or (map name_in tables) j [])) j ≡ last_below (has_name (map name_in tables) name) j
same_chain tables name j is =
    let same : name ≡ get_or (map name_in tables) j [] = (bytes_eq-Decides name (get_or (map name_in tables) j [])).0 is.1 in
    ap (λ n. last_below (has_name (map name_in tables) n) j) (sym same)

pub next_named : (tables : List StoredTable) (name : List ℕ) (j : ℕ) (o : Option ℕ) → IsNamed tables name j → o ≡ last_below (has_name (map name_in tables) (get_or (map name_in tables) j [])) j → IfSome o (IsNamed tables name)
next_named tables name j None at is = tt
next_named tables name j (Some i) at is =
    let r = last_is (has_name (map name_in tables) name) j i (sym (is ∙ same_chain tables name j at)) in
    (omega (arith, r.0, at.0), r.1)

pub next_lower : (tables : List StoredTable) (name : List ℕ) (j i : ℕ) → IsNamed tables name j → Some i ≡ last_below (has_name (map name_in tables) (get_or (map name_in tables) j [])) j → i < j
next_lower tables name j i at is = (last_is (has_name (map name_in tables) name) j i (sym (is ∙ same_chain tables name j at))).0

-- how many numbers are left to the walk
abbrev pub steps_left : Option ℕ → ℕ
steps_left None = 0
steps_left (Some j) = j + 1

pub walk_shrinks : (tables : List StoredTable) (name : List ℕ) (j : ℕ) (here o : Option ℕ) → here ≡ Some j → IsNamed tables name j → o ≡ last_below (has_name (map name_in tables) (get_or (map name_in tables) j [])) j → steps_left o < steps_left here
walk_shrinks tables name j here None is at more = subst (λ q. 0 < steps_left q) (sym is) (omega arith)
walk_shrinks tables name j here (Some i) is at more =
    let lower : i < j = next_lower tables name j i at more in
    subst (λ q. i + 1 < steps_left q) (sym is) (omega (arith, lower))

-- ---- tests of a table by its name and by what is kept of it

abbrev pub named_and : (StoredTable → Bool) → List StoredTable → List ℕ → ℕ → Bool
named_and f tables name k = has_name (map name_in tables) name k && f (get_or tables k no_stored)

pub walk_begins : (f : StoredTable → Bool) (tables : List StoredTable) (name : List ℕ) (o : Option ℕ) → o ≡ last_below (has_name (map name_in tables) name) (length (map name_in tables)) → from_here (named_and f tables name) o ≡ last_below (named_and f tables name) (length tables)
walk_begins f tables name o is =
    ap (from_here (named_and f tables name)) is
    ∙ sym (skip_others (has_name (map name_in tables) name) (named_and f tables name) (λ k e. rw e refl) (length (map name_in tables)))
    ∙ ap (last_below (named_and f tables name)) (length-map tables name_in)

pub walk_goes : (f : StoredTable → Bool) (tables : List StoredTable) (name : List ℕ) (j : ℕ) (o : Option ℕ) → IsNamed tables name j → f (get_or tables j no_stored) ≡ false → o ≡ last_below (has_name (map name_in tables) (get_or (map name_in tables) j [])) j → from_here (named_and f tables name) o ≡ from_here (named_and f tables name) (Some j)
walk_goes f tables name j o at fails is =
    let p = named_and f tables name in
    let over : p j ≡ false = rw (at.1, fails) refl in
    let here : from_here p (Some j) ≡ last_below p j = rw over refl in
    ap (from_here p) (is ∙ same_chain tables name j at)
    ∙ sym (skip_others (has_name (map name_in tables) name) p (λ k e. rw e refl) j)
    ∙ sym here

pub walk_ends : (f : StoredTable → Bool) (tables : List StoredTable) (name : List ℕ) (j : ℕ) → IsNamed tables name j → f (get_or tables j no_stored) ≡ true → from_here (named_and f tables name) (Some j) ≡ Some j
walk_ends f tables name j at holds = let yes_here : named_and f tables name j ≡ true = rw (at.1, holds) refl in rw yes_here refl

-- ---- in the history

tables_numbered : (h : History) → AreCatalogueSound h → (k : ℕ) → k < length (tables_made (catalogue_events h)) → (table_at (tables_made (catalogue_events h)) k).id.number ≡ k
tables_numbered [] sound k lt = absurd (omega arith)
tables_numbered (CatalogueChange (TableMade t) ∷ h) sound k lt =
    let n : length (tables_made (catalogue_events h) ++ t ∷ []) ≡ length (tables_made (catalogue_events h)) + 1 = omega (arith, length-append (tables_made (catalogue_events h)) (t ∷ [])) in
    elim (cases_lt k (length (tables_made (catalogue_events h)))) [
      | inl old ↦ grind (arith, common_steps, elements, tables_numbered h sound.1 k old)
      | inr new ↦
          let at : k ≡ length (tables_made (catalogue_events h)) = omega (arith, n, lt) in
          let here : table_at (tables_made (catalogue_events h) ++ t ∷ []) k ≡ t = grind (arith, common_steps, elements, at) in
          ap (λ (x : Table). x.id.number) here ∙ sound.0.0 ∙ sym at
    ]
tables_numbered (CatalogueChange e ∷ h) sound k lt = tables_numbered h sound.1 k lt
tables_numbered (_ ∷ h) sound k lt = tables_numbered h sound k lt

pub made_is : (kept : KeptCatalogue) (h : History) (k : ℕ) → CatalogueStands kept h → k < length kept.tables → made_at h k ≡ (get_or kept.tables k no_stored).table
made_is kept h k st lt = ap (λ ts. table_at ts k) (sym st.tables) ∙ get_or-map table_in kept.tables k no_stored no_table lt

pub made_count : (kept : KeptCatalogue) (h : History) → CatalogueStands kept h → table_number h ≡ length kept.tables
made_count kept h st = ap length (sym st.tables) ∙ length-map kept.tables table_in

name_is : (kept : KeptCatalogue) (k : ℕ) → k < length kept.tables → get_or (map name_in kept.tables) k [] ≡ (get_or kept.tables k no_stored).table.name
name_is kept k lt = get_or-map name_in kept.tables k no_stored [] lt

pub there_told : (kept : KeptCatalogue) (h : History) (s k : ℕ) → CatalogueStands kept h → k < length kept.tables → there_by (tx_events h) s (get_or kept.tables k no_stored) ≡ is_there h s (made_at h k)
there_told kept h s k st lt =
    let is = made_is kept h k st lt in
    let within : k < length (tables_made (catalogue_events h)) = omega (arith, lt, made_count kept h st) in
    let n : (get_or kept.tables k no_stored).table.id.number ≡ k = ap (λ (t : Table). t.id.number) (sym is) ∙ tables_numbered h st.sound k within in
    let d = st.drops k in
    let o = newest_drop_counts h k st.sound in
    rw (is, n, d, o) refl

meant_told : (kept : KeptCatalogue) (h : History) (s : ℕ) (name : List ℕ) (k : ℕ) → CatalogueStands kept h → k < length kept.tables → named_and (there_by (tx_events h) s) kept.tables name k ≡ is_meant h s name k
meant_told kept h s name k st lt =
    let n = name_is kept k lt in
    let t = there_told kept h s k st lt in
    let m = ap (λ (x : Table). x.name) (made_is kept h k st lt) in
    rw (n, t, m) refl

pub resolved_told : (kept : KeptCatalogue) (h : History) (s : ℕ) (name : List ℕ) → CatalogueStands kept h → last_below (named_and (there_by (tx_events h) s) kept.tables name) (length kept.tables) ≡ resolved h s name
resolved_told kept h s name st =
    last_agree (named_and (there_by (tx_events h) s) kept.tables name) (is_meant h s name) (length kept.tables) (λ k lt. meant_told kept h s name k st lt)
    ∙ ap (last_below (is_meant h s name)) (sym (made_count kept h st))

elsewhere_told : (kept : KeptCatalogue) (h : History) (s : ℕ) (name : List ℕ) (k : ℕ) → CatalogueStands kept h → k < length kept.tables → named_and (made_elsewhere_by (tx_events h) s) kept.tables name k ≡ is_made_elsewhere h s name k
elsewhere_told kept h s name k st lt =
    let n = name_is kept k lt in
    let m = made_is kept h k st lt in
    rw (n, m) refl

pub taken_told : (kept : KeptCatalogue) (h : History) (s : ℕ) (name : List ℕ) → CatalogueStands kept h → last_below (named_and (made_elsewhere_by (tx_events h) s) kept.tables name) (length kept.tables) ≡ last_below (is_made_elsewhere h s name) (table_number h)
taken_told kept h s name st =
    last_agree (named_and (made_elsewhere_by (tx_events h) s) kept.tables name) (is_made_elsewhere h s name) (length kept.tables) (λ k lt. elsewhere_told kept h s name k st lt)
    ∙ ap (last_below (is_made_elsewhere h s name)) (sym (made_count kept h st))
