-- A path as it is made, one table after the other, and the place of a table on it.
use Rattle.std.proofs.Common.{◌≡◌, ℕ, zero, suc, ◌+◌, ◌-◌, ◌<◌, ◌≤◌, ◌++◌, append_assoc, arith, ap, refl, sym, subst, ◌∙◌, Bool, true, false, List, [], ◌∷◌, Option, Some, None, IfSome, filter, map, length, drop, drop-cons, add-one, get_or, inl, inr}
use Rattle.std.specs.List.{All, find, position_or_len}
use Rattle.std.proofs.lemmas.Bool.{cases_Bool}
use Rattle.std.proofs.lemmas.Grind.{common_steps, elements}
use Rattle.std.proofs.lemmas.List.Elements.{All-head, All-tail}
use Rattle.pg_values.specs.declared.ids.TableNo.{TableNo}
use Rattle.pg_values.specs.declared.ids.LeafId.{LeafId}
use Rattle.bound_forms.specs.declared.partition_bound.Bound.{Bound}
use Rattle.bound_forms.specs.declared.level.Level.{Level}
use Rattle.history.specs.declared.catalogue.Table.{Table}
use Rattle.history.specs.declared.catalogue.TableShape.TheVariants.{Leaf as LeafShape, Level as LevelShape}
use Rattle.history.specs.declared.catalogue.Entry.{Entry}
use Rattle.history.specs.declared.catalogue.Check.{Check}
use Rattle.history.specs.declared.catalogue.KeptCheck.{KeptCheck}
use Rattle.history.specs.Transactions.{IsSound}
use Rattle.history.specs.Catalogue.{tables_made, entries_added}
use Rattle.history.specs.History.{History, tx_events, catalogue_events}
use Rattle.history.specs.Places.{table_at}
use Rattle.history.specs.Presence.{entries_present, checks_of, is_check_of}
use Rattle.row_router.specs.declared.path_part.Place.{Place}
use Rattle.row_router.specs.declared.path_part.PathPart.{PathPart}
use Rattle.row_router.specs.Histories.{above, bound_of, children, is_entry, is_over, kept_of, parent_in, part_of, path_of, place_among, place_of, upwards}
use Rattle.row_router.proofs.Order.{all_kept, all_children}
use Rattle.part_catalog.specs.declared.stored.StoredTable.{StoredTable}
use Rattle.part_catalog.specs.declared.stored.StoredEntry.{StoredEntry}
use Rattle.part_catalog.specs.Kept.{KeptCatalogue, IsBetween, table_in, no_entry, with_place, by_place}
use Rattle.part_catalog.specs.Stands.{CatalogueStands, present_by, is_flagged}
use Rattle.part_catalog.specs.Answers.{parent_told, number_told, without_place}
use Rattle.part_catalog.proofs.Grown.{past_end}
use Rattle.part_catalog.proofs.Told.{present_flagged}
use Rattle.part_catalog.proofs.Paths.{parent_number, upwards_none, upwards_step}
use Rattle.part_catalog.proofs.Places.{own_number, length_by_place, at_by_place, all_by_place}
use Rattle.part_catalog.proofs.Renumbered.{renumbered, IsToldApart, place_anew, above_anew, parent_anew}
use Rattle.part_catalog.proofs.Rising.{kept_rise, numbers_tell}

-- ---- the parent of a table is known

find_all : (P : Entry → Type 0) (p : Entry → Bool) (xs : List Entry) (x : Entry) → find p xs ≡ Some x → All P xs → P x
find_all P p [] x is all = absurd (cc)
find_all P p (y ∷ ys) x is all = elim (cases_Bool (p y)) [
  | inl t ↦ let same : y ≡ x = let e : Some y ≡ Some x = rw t at is in cc in subst P same (All-head P y ys all)
  | inr f ↦ find_all P p ys x (rw f at is) (All-tail P y ys all)
]

known_of : (n : ℕ) (found : Option Entry) (o : Option TableNo) → ((x : Entry) → found ≡ Some x → x.parent.number < n) → o ≡ parent_told found → IfSome o (λ p. p.number < n)
known_of n None o all is = subst (λ q. IfSome q (λ (p : TableNo). p.number < n)) (sym is) tt
known_of n (Some x) o all is = subst (λ q. IfSome q (λ (p : TableNo). p.number < n)) (sym is) (all x refl)

abbrev HasParent : ℕ → Entry → Type 0
HasParent n e = e.parent.number < n

pub parent_known : (tables : List StoredTable) (entries : List StoredEntry) (flags : List Bool) (t : ℕ) (o : Option TableNo) → ((k : ℕ) → k < length entries → IsBetween tables (get_or entries k no_entry)) → o ≡ parent_told (above (filter (is_flagged flags) (by_place entries)) t) → IfSome o (λ p. p.number < length tables)
parent_known tables entries flags t o between is =
    let all : All (HasParent (length tables)) (by_place entries) = all_by_place (HasParent (length tables)) entries (λ k lt. (between k lt).parent) in
    known_of (length tables) (above (filter (is_flagged flags) (by_place entries)) t) o
    (λ x found. find_all (HasParent (length tables)) (is_over t) (filter (is_flagged flags) (by_place entries)) x found (all_kept (HasParent (length tables)) (is_flagged flags) (by_place entries) all)) is

-- ---- a walk over the entries

at_walk : (xs : List StoredEntry) (i : ℕ) (x : StoredEntry) → i < length xs → x ≡ get_or xs i x → drop i (by_place xs) ≡ with_place i x.entry ∷ drop (i + 1) (by_place xs)
at_walk xs i x lt is =
    let within : i < length (by_place xs) = omega (arith, lt, length_by_place xs) in
    let same : get_or xs i no_entry ≡ x = grind (arith, common_steps, elements, is) in
    let next : i + 1 ≡ suc i = add-one i in
    let there : drop i (by_place xs) ≡ get_or (by_place xs) i no_entry.entry ∷ drop (i + 1) (by_place xs) = rw next (drop-cons (by_place xs) i no_entry.entry within) in
    there ∙ ap (λ (e : Entry). e ∷ drop (i + 1) (by_place xs)) (at_by_place xs i no_entry.entry lt ∙ ap (λ (y : StoredEntry). with_place i y.entry) same)

pub walk_on : (p : Entry → Bool) (xs : List StoredEntry) (i : ℕ) (x : StoredEntry) → i < length xs → x ≡ get_or xs i x → p (with_place i x.entry) ≡ false → find p (drop (i + 1) (by_place xs)) ≡ find p (drop i (by_place xs))
walk_on p xs i x lt is fails =
    let here : find p (with_place i x.entry ∷ drop (i + 1) (by_place xs)) ≡ find p (drop (i + 1) (by_place xs)) = rw fails refl in
    sym here ∙ ap (find p) (sym (at_walk xs i x lt is))

pub walk_found : (p : Entry → Bool) (xs : List StoredEntry) (i : ℕ) (x : StoredEntry) → i < length xs → x ≡ get_or xs i x → p (with_place i x.entry) ≡ true → Some (with_place i (get_or xs i no_entry).entry) ≡ find p (drop i (by_place xs))
walk_found p xs i x lt is holds =
    let same : get_or xs i no_entry ≡ x = grind (arith, common_steps, elements, is) in
    let here : find p (with_place i x.entry ∷ drop (i + 1) (by_place xs)) ≡ Some (with_place i x.entry) = rw holds refl in
    ap (λ (y : StoredEntry). Some (with_place i y.entry)) same ∙ sym here ∙ ap (find p) (sym (at_walk xs i x lt is))

pub walk_over : (p : Entry → Bool) (xs : List StoredEntry) (i : ℕ) → length xs ≤ i → None ≡ find p (drop i (by_place xs))
walk_over p xs i le = ap (find p) (sym (past_end i (by_place xs) (omega (arith, le, length_by_place xs))))

-- ---- its place

pub place_none : (tables : List Table) (entries : List Entry) (o : Option Entry) → None ≡ o → None ≡ place_of tables entries o
place_none tables entries o is = ap (place_of tables entries) is

pub place_leaf : (tables : List Table) (entries : List Entry) (o : Option Entry) (e : Entry) (leaf : LeafId) → Some e ≡ o → (table_at tables e.parent.number).shape ≡ LeafShape leaf → None ≡ place_of tables entries o
place_leaf tables entries o e leaf is shape = ap (λ s. place_among (children entries e.parent.number) s e) (sym shape) ∙ ap (place_of tables entries) is

abbrev pub place : Level → List Bound → ℕ → Place
place level bounds child = record { level = level; bounds = bounds; child = child }

pub place_level : (tables : List Table) (entries : List Entry) (o : Option Entry) (e : Entry) (level copy : Level) (bounds : List Bound) (child : ℕ) → Some e ≡ o → (table_at tables e.parent.number).shape ≡ LevelShape level → copy ≡ level → bounds ≡ map bound_of (children entries e.parent.number) → child ≡ position_or_len (is_entry e) (children entries e.parent.number) → Some (place copy bounds child) ≡ place_of tables entries o
place_level tables entries o e level copy bounds child is shape same set at =
    ap (λ l. Some (place l bounds child)) same
    ∙ ap (λ b. Some (place level b child)) set
    ∙ ap (λ n. Some (place level (map bound_of (children entries e.parent.number)) n)) at
    ∙ ap (λ s. place_among (children entries e.parent.number) s e) (sym shape)
    ∙ ap (place_of tables entries) is

-- ---- the parts of a path

abbrev pub path_part : TableNo → List KeptCheck → Option Place → PathPart
path_part table checks place = record { table = table; checks = checks; place = place }

-- entries at their places are told apart by their own numbers
told_apart : (kept : KeptCatalogue) (h : History) (flags : List Bool) (t : ℕ) (e : Entry) → CatalogueStands kept h → above (filter (is_flagged flags) (by_place kept.entries)) t ≡ Some e → All (IsToldApart (own_number kept.entries) e) (children (filter (is_flagged flags) (by_place kept.entries)) e.parent.number)
told_apart kept h flags t e st found =
    let E = kept.entries in
    let part = filter (is_flagged flags) (by_place E) in
    let Apart : Entry → Type 0 = λ x. All (IsToldApart (own_number E) x) (by_place E) in
    let each : All Apart (by_place E) = all_by_place Apart E (λ i lt. all_by_place (IsToldApart (own_number E) (with_place i (get_or E i no_entry).entry)) E (λ j le. numbers_tell E 0 (length (entries_added (catalogue_events h))) i j (kept_rise kept h st) lt le)) in
    let one : Apart e = find_all Apart (is_over t) part e found (all_kept Apart (is_flagged flags) (by_place E) each) in
    all_children (IsToldApart (own_number E) e) part e.parent.number (all_kept (IsToldApart (own_number E) e) (is_flagged flags) (by_place E) one)

place_told : (kept : KeptCatalogue) (h : History) (s : ℕ) (flags : List Bool) (t : ℕ) → IsSound (tx_events h) → CatalogueStands kept h → flags ≡ map (present_by (tx_events h) s) kept.entries
    → place_of (tables_made (catalogue_events h)) (filter (is_flagged flags) (by_place kept.entries)) (above (filter (is_flagged flags) (by_place kept.entries)) t) ≡ place_of (tables_made (catalogue_events h)) (entries_present h s) (above (entries_present h s) t)
place_told kept h s flags t sound st are =
    let g = own_number kept.entries in
    let made = tables_made (catalogue_events h) in
    let part = filter (is_flagged flags) (by_place kept.entries) in
    sym (place_anew g made part (above part t) (λ e found. told_apart kept h flags t e st found))
    ∙ ap (place_of made (map (renumbered g) part)) (sym (above_anew g part t))
    ∙ ap (λ es. place_of made es (above es t)) (present_flagged kept h s flags sound st are)

pub part_made : (kept : KeptCatalogue) (h : History) (s : ℕ) (flags : List Bool) (t : TableNo) (checks : List KeptCheck) (at : Option Place) → IsSound (tx_events h) → CatalogueStands kept h → flags ≡ map (present_by (tx_events h) s) kept.entries → checks ≡ map kept_of (filter (is_check_of (tx_events h) s t.number) kept.checks)
    → at ≡ place_of (map table_in kept.tables) (filter (is_flagged flags) (by_place kept.entries)) (above (filter (is_flagged flags) (by_place kept.entries)) t.number)
    → path_part t checks at ≡ part_of (tables_made (catalogue_events h)) (entries_present h s) (checks_of h s) t.number
part_made kept h s flags t checks at sound st are of_table place_is =
    ap (λ ks. path_part t ks at) (of_table ∙ ap (λ cs. map kept_of (filter (is_check_of (tx_events h) s t.number) cs)) st.checks)
    ∙ ap (path_part t (map kept_of (checks_of h s t.number))) (place_is ∙ ap (λ ts. place_of ts (filter (is_flagged flags) (by_place kept.entries)) (above (filter (is_flagged flags) (by_place kept.entries)) t.number)) st.tables ∙ place_told kept h s flags t.number sound st are)

pub next_told : (kept : KeptCatalogue) (h : History) (s : ℕ) (flags : List Bool) (t : ℕ) (o : Option TableNo) → IsSound (tx_events h) → CatalogueStands kept h → flags ≡ map (present_by (tx_events h) s) kept.entries → o ≡ parent_told (above (filter (is_flagged flags) (by_place kept.entries)) t) → number_told o ≡ parent_in (above (entries_present h s) t)
next_told kept h s flags t o sound st are is =
    ap number_told is
    ∙ parent_number (above (filter (is_flagged flags) (by_place kept.entries)) t)
    ∙ sym (parent_anew (own_number kept.entries) (filter (is_flagged flags) (by_place kept.entries)) t)
    ∙ ap (λ es. parent_in (above es t)) (present_flagged kept h s flags sound st are)

pub path_step : (n : ℕ) (part : ℕ → PathPart) (up : ℕ → Option Entry) (done : List PathPart) (x : PathPart) (t : ℕ) (o : Option ℕ) (whole : List PathPart) → n < 8 → x ≡ part t → o ≡ parent_in (up t) → done ++ upwards (8 - n) part up (Some t) ≡ whole → (done ++ x ∷ []) ++ upwards (8 - (n + 1)) part up o ≡ whole
path_step n part up done x t o whole lt here next h =
    let less : 8 - n ≡ suc (8 - (n + 1)) = omega (arith, lt) in
    let rest = upwards (8 - (n + 1)) part up o in
    let e : upwards (8 - n) part up (Some t) ≡ x ∷ rest =
    upwards_step (8 - n) (8 - (n + 1)) part up t less
    ∙ ap (λ y. y ∷ upwards (8 - (n + 1)) part up (parent_in (up t))) (sym here)
    ∙ ap (λ q. x ∷ upwards (8 - (n + 1)) part up q) (sym next) in
    append_assoc done (x ∷ []) rest ∙ ap (λ l. done ++ l) (sym e) ∙ h

-- ---- a path with its CHECKs alone

abbrev pub checked_part : History → (session : ℕ) → ℕ → PathPart
checked_part h s t = without_place (part_of (tables_made (catalogue_events h)) (entries_present h s) (checks_of h s) t)

upwards_map : (f : PathPart → PathPart) (n : ℕ) (part : ℕ → PathPart) (up : ℕ → Option Entry) (o : Option ℕ) → upwards n (λ t. f (part t)) up o ≡ map f (upwards n part up o)
upwards_map f n part up None = upwards_none n (λ t. f (part t)) up ∙ ap (map f) (sym (upwards_none n part up))
upwards_map f zero part up (Some t) = refl
upwards_map f (suc n) part up (Some t) = ap (λ ps. f (part t) ∷ ps) (upwards_map f n part up (parent_in (up t)))

pub path_checked : (h : History) (s t : ℕ) → upwards 8 (checked_part h s) (above (entries_present h s)) (Some t) ≡ map without_place (path_of h s t)
unfolding Rattle.row_router.specs.Histories.path_of
path_checked h s t = upwards_map without_place 8 (part_of (tables_made (catalogue_events h)) (entries_present h s) (checks_of h s)) (above (entries_present h s)) (Some t)

pub checks_told : (kept : KeptCatalogue) (h : History) (s t : ℕ) (found : List KeptCheck) (all : List Check) → CatalogueStands kept h → all ≡ kept.checks → found ≡ map kept_of (filter (is_check_of (tx_events h) s t) all) → found ≡ map kept_of (checks_of h s t)
checks_told kept h s t found all st same is = is ∙ ap (λ cs. map kept_of (filter (is_check_of (tx_events h) s t) cs)) (same ∙ st.checks)

pub checked_made : (h : History) (s : ℕ) (t : TableNo) (found : List KeptCheck) → found ≡ map kept_of (checks_of h s t.number) → path_part t found None ≡ checked_part h s t.number
checked_made h s t found is = ap (λ ks. path_part t ks None) is
