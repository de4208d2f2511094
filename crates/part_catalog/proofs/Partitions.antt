-- The entries below a table that are present for a session.
use Rattle.std.proofs.Common.{◌≡◌, ℕ, zero, suc, ◌+◌, ◌-◌, ◌<◌, ◌≤◌, arith, ap, refl, sym, subst, ◌∙◌, Bool, true, false, List, [], ◌∷◌, ◌++◌, Option, Some, None, length, drop, drop-cons, add-one, append-nil, map, filter, get_or, inl, inr}
use Rattle.std.specs.List.{All, last_or}
use Rattle.std.proofs.lemmas.Bool.{cases_Bool}
use Rattle.std.proofs.lemmas.Grind.{common_steps}
use Rattle.std.proofs.lemmas.List.{get_or-map, length-map}
use Rattle.std.proofs.lemmas.List.Elements.{All-head, All-tail}
use Rattle.history.specs.declared.catalogue.Entry.{Entry}
use Rattle.history.specs.Transactions.{IsSound}
use Rattle.history.specs.History.{History, tx_events}
use Rattle.history.specs.Presence.{is_present, entries_present}
use Rattle.row_router.specs.Histories.{children}
use Rattle.row_router.proofs.Order.{children_of_part, all_children}
use Rattle.part_catalog.specs.declared.stored.StoredEntry.{StoredEntry}
use Rattle.part_catalog.specs.Kept.{KeptCatalogue, entry_in, number_of, no_entry, stored_at, by_place}
use Rattle.part_catalog.specs.Stands.{CatalogueStands, present_by}
use Rattle.part_catalog.proofs.Grown.{IsOwn, all_own}
use Rattle.part_catalog.proofs.Places.{own_number, own_entries}
use Rattle.part_catalog.proofs.Renumbered.{renumbered, children_anew}
use Rattle.part_catalog.proofs.Told.{present_told, present_kept}

-- ---- what a loop over numbers keeps

abbrev pub passed : (StoredEntry → Bool) → List StoredEntry → List ℕ → List Entry
passed q entries numbers = map entry_in (filter q (map (stored_at entries) numbers))

next_at : (numbers : List ℕ) (i : ℕ) → i < length numbers → drop i numbers ≡ get_or numbers i 0 ∷ drop (i + 1) numbers
next_at numbers i lt = let next : i + 1 ≡ suc i = add-one i in rw next (drop-cons numbers i 0 lt)

pub take_passed : (q : StoredEntry → Bool) (entries : List StoredEntry) (done more : List Entry) (numbers : List ℕ) (i : ℕ) (x : StoredEntry) (all : List Entry) → i < length numbers → x ≡ stored_at entries (get_or numbers i 0) → q x ≡ true → more ≡ done ++ x.entry ∷ []
    → done ++ passed q entries (drop i numbers) ≡ all → more ++ passed q entries (drop (i + 1) numbers) ≡ all
take_passed q entries done more numbers i x all lt is test put h =
    let n = get_or numbers i 0 in
    let yes : q (stored_at entries n) ≡ true = ap q (sym is) ∙ test in
    let split : passed q entries (n ∷ drop (i + 1) numbers) ≡ (stored_at entries n).entry ∷ passed q entries (drop (i + 1) numbers) = rw yes refl in
    let here : passed q entries (drop i numbers) ≡ x.entry ∷ passed q entries (drop (i + 1) numbers) =
    ap (passed q entries) (next_at numbers i lt) ∙ split ∙ ap (λ (y : StoredEntry). y.entry ∷ passed q entries (drop (i + 1) numbers)) (sym is) in
    ap (λ l. l ++ passed q entries (drop (i + 1) numbers)) put ∙ grind (arith, common_steps) ∙ ap (λ es. done ++ es) (sym here) ∙ h

pub skip_passed : (q : StoredEntry → Bool) (entries : List StoredEntry) (done more : List Entry) (numbers : List ℕ) (i : ℕ) (x : StoredEntry) (all : List Entry) → i < length numbers → x ≡ stored_at entries (get_or numbers i 0) → q x ≡ false → more ≡ done
    → done ++ passed q entries (drop i numbers) ≡ all → more ++ passed q entries (drop (i + 1) numbers) ≡ all
skip_passed q entries done more numbers i x all lt is test put h =
    let n = get_or numbers i 0 in
    let no : q (stored_at entries n) ≡ false = ap q (sym is) ∙ test in
    let split : passed q entries (n ∷ drop (i + 1) numbers) ≡ passed q entries (drop (i + 1) numbers) = rw no refl in
    let here : passed q entries (drop i numbers) ≡ passed q entries (drop (i + 1) numbers) = ap (passed q entries) (next_at numbers i lt) ∙ split in
    ap (λ l. l ++ passed q entries (drop (i + 1) numbers)) put ∙ ap (λ es. done ++ es) (sym here) ∙ h

-- ---- what a loop over numbers from behind finds

-- none behind a place passes
abbrev pub NoneBehind : (StoredEntry → Bool) → List StoredEntry → List ℕ → ℕ → Type 0
NoneBehind q entries numbers i = passed q entries (drop i numbers) ≡ []

last_from : (q : StoredEntry → Bool) (entries : List StoredEntry) (numbers : List ℕ) (i : ℕ) (o : Option Entry) → i < length numbers → q (stored_at entries (get_or numbers i 0)) ≡ true → NoneBehind q entries numbers (suc i) → Some (stored_at entries (get_or numbers i 0)).entry ≡ last_or o (passed q entries numbers)
last_from q entries [] i o lt test none = absurd (omega (arith, lt))
last_from q entries (n ∷ ns) zero o lt test none =
    let split : passed q entries (n ∷ ns) ≡ (stored_at entries n).entry ∷ passed q entries ns = rw test refl in
    ap (last_or (Some (stored_at entries n).entry)) (sym none) ∙ ap (last_or o) (sym split)
last_from q entries (n ∷ ns) (suc i) o lt test none = elim (cases_Bool (q (stored_at entries n))) [
  | inl y ↦
      let split : passed q entries (n ∷ ns) ≡ (stored_at entries n).entry ∷ passed q entries ns = rw y refl in
      last_from q entries ns i (Some (stored_at entries n).entry) (omega (arith, lt)) test none ∙ ap (last_or o) (sym split)
  | inr f ↦
      let split : passed q entries (n ∷ ns) ≡ passed q entries ns = rw f refl in
      last_from q entries ns i o (omega (arith, lt)) test none ∙ ap (last_or o) (sym split)
]

pub last_found : (q : StoredEntry → Bool) (entries : List StoredEntry) (numbers : List ℕ) (i : ℕ) (x : StoredEntry) → 0 < i → i ≤ length numbers → x ≡ stored_at entries (get_or numbers (i - 1) 0) → q x ≡ true → NoneBehind q entries numbers i → Some x.entry ≡ last_or None (passed q entries numbers)
last_found q entries numbers i x some within is test none =
    let next : i ≡ suc (i - 1) = omega (arith, some) in
    ap (λ (y : StoredEntry). Some y.entry) is
    ∙ last_from q entries numbers (i - 1) None (omega (arith, some, within)) (ap q (sym is) ∙ test) (subst (NoneBehind q entries numbers) next none)

-- ---- below a table

pub known_numbers : (entries : List StoredEntry) (numbers : List ℕ) (t : ℕ) → numbers ≡ map number_of (children (by_place entries) t) → All (λ k. k < length entries) numbers
known_numbers entries numbers t are i d lt =
    let kids = children (by_place entries) t in
    let within : i < length kids = omega (arith, lt, ap length are, length-map kids number_of) in
    let own = all_children (IsOwn entries) (by_place entries) t (all_own entries) i no_entry.entry within in
    let is : get_or numbers i d ≡ (get_or kids i no_entry.entry).id.number = ap (λ ns. get_or ns i d) are ∙ get_or-map number_of kids i no_entry.entry d within in
    omega (arith, own.0, is)

-- an entry at its place is, under its own number, the one that stands there
own_is : (entries : List StoredEntry) (e : Entry) → IsOwn entries e → renumbered (own_number entries) e ≡ (stored_at entries e.id.number).entry
own_is entries e own = ap (renumbered (own_number entries)) (sym own.1)

passed_own : (q : StoredEntry → Bool) (p : Entry → Bool) (entries : List StoredEntry) (kids : List Entry) → ((k : ℕ) → k < length entries → q (get_or entries k no_entry) ≡ p (get_or entries k no_entry).entry) → All (IsOwn entries) kids → passed q entries (map number_of kids) ≡ filter p (map (renumbered (own_number entries)) kids)
passed_own q p entries [] same own = refl
passed_own q p entries (e ∷ es) same own =
    let rest = passed_own q p entries es same (All-tail (IsOwn entries) e es own) in
    let first : IsOwn entries e = All-head (IsOwn entries) e es own in
    let is : renumbered (own_number entries) e ≡ (stored_at entries e.id.number).entry = own_is entries e first in
    let agree : q (stored_at entries e.id.number) ≡ p (renumbered (own_number entries) e) = same e.id.number first.0 ∙ ap p (sym is) in
    elim (cases_Bool (p (renumbered (own_number entries) e))) [
      | inl y ↦
          let t : q (stored_at entries e.id.number) ≡ true = agree ∙ y in
          rw (y, t) (ap (λ x. x ∷ passed q entries (map number_of es)) (sym is) ∙ ap (λ xs. renumbered (own_number entries) e ∷ xs) rest)
      | inr o ↦
          let t : q (stored_at entries e.id.number) ≡ false = agree ∙ o in
          rw (o, t) rest
    ]

pub passed_are : (kept : KeptCatalogue) (h : History) (s t : ℕ) (numbers : List ℕ) → IsSound (tx_events h) → CatalogueStands kept h → numbers ≡ map number_of (children (by_place kept.entries) t) → passed (present_by (tx_events h) s) kept.entries numbers ≡ children (entries_present h s) t
passed_are kept h s t numbers sound st are =
    let all = by_place kept.entries in
    let g = own_number kept.entries in
    ap (passed (present_by (tx_events h) s) kept.entries) are
    ∙ passed_own (present_by (tx_events h) s) (is_present h s) kept.entries (children all t) (λ k lt. present_told kept h s k st lt) (all_children (IsOwn kept.entries) all t (all_own kept.entries))
    ∙ ap (filter (is_present h s)) (sym (children_anew g all t))
    ∙ children_of_part (is_present h s) (map (renumbered g) all) t
    ∙ ap (λ es. children (filter (is_present h s) es) t) (own_entries kept.entries)
    ∙ ap (λ es. children es t) (present_kept kept h s sound st)
