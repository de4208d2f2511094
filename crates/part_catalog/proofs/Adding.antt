-- An entry that is added: its place below its table, and the counts for the limits.
use Rattle.std.proofs.Common.{◌≡◌, ℕ, ◌+◌, ◌-◌, ◌<◌, ◌≤◌, min, arith, ap, sym, subst, ◌∙◌, Bool, true, false, List, [], ◌∷◌, map, filter, length, get_or, inl, inr}
use Rattle.std.specs.Prelude.{nat_le}
use Rattle.std.specs.List.{All, AllPairs, position_or_len}
use Rattle.std.proofs.lemmas.Bool.{cases_Bool, cases_lt}
use Rattle.std.proofs.lemmas.Bool.Decides.{nat_tests}
use Rattle.std.proofs.lemmas.List.{get_or-map, length-map}
use Rattle.std.proofs.lemmas.List.Sums.{position_or_len_is}
use Rattle.bound_forms.specs.declared.partition_bound.Bound.{Bound}
use Rattle.bound_forms.specs.Bounds.{comes_after}
use Rattle.bound_forms.proofs.PlainOrder.{order_sorts, plain_total}
use Rattle.bound_forms.proofs.TotalOrder.{le_trans}
use Rattle.pg_values.specs.declared.ids.TableNo.{TableNo}
use Rattle.history.specs.declared.catalogue.Entry.{Entry}
use Rattle.history.specs.Transactions.{IsSound}
use Rattle.history.specs.Catalogue.{tables_made, entries_added}
use Rattle.history.specs.History.{History, tx_events, catalogue_events}
use Rattle.history.specs.Places.{table_at, Suits, TakesBound}
use Rattle.row_router.specs.Histories.{children, table_of, is_under, bound_of}
use Rattle.row_router.proofs.Order.{all_children, under_children, children_bounds}
use Rattle.row_router.proofs.Suited.{all_suit}
use Rattle.part_catalog.specs.declared.stored.StoredEntry.{StoredEntry}
use Rattle.part_catalog.specs.Forgotten.{IsGone}
use Rattle.part_catalog.specs.Kept.{KeptCatalogue, entry_in, stored_at, number_of, no_entry, by_place}
use Rattle.part_catalog.specs.Stands.{CatalogueStands, present_by}
use Rattle.part_catalog.specs.Full.{partitions}
use Rattle.part_catalog.specs.Ordered.{CanPlace, HaveAnOrder, AreInOrder, stands_behind}
use Rattle.part_catalog.proofs.Grown.{IsOwn, all_own}
use Rattle.part_catalog.proofs.Forgotten.{thin_all}
use Rattle.part_catalog.proofs.Partitions.{passed_are}
use Rattle.part_catalog.proofs.Suited.{have_an_order}

-- ---- its place

-- all entries of one table have an order with a further one of that table
abbrev pub HaveOrders : List StoredEntry → Entry → Type 0
HaveOrders entries e = (k : ℕ) → k < length entries → (get_or entries k no_entry).entry.parent ≡ e.parent → HaveAnOrder (get_or entries k no_entry).entry.bound e.bound

pub can_place : (entries : List StoredEntry) (e : Entry) (numbers : List ℕ) → numbers ≡ map number_of (children (by_place entries) e.parent.number) → HaveOrders entries e → All (CanPlace entries e) numbers
can_place entries e numbers are orders i d lt =
    let kids = children (by_place entries) e.parent.number in
    let within : i < length kids = omega (arith, lt, ap length are, length-map kids number_of) in
    let kid : Entry = get_or kids i no_entry.entry in
    let own : IsOwn entries kid = all_children (IsOwn entries) (by_place entries) e.parent.number (all_own entries) i no_entry.entry within in
    let under : kid.parent.number ≡ e.parent.number = under_children (by_place entries) e.parent.number i no_entry.entry within in
    let is : get_or numbers i d ≡ kid.id.number = ap (λ ns. get_or ns i d) are ∙ get_or-map number_of kids i no_entry.entry d within in
    let parent : (get_or entries kid.id.number no_entry).entry.parent ≡ e.parent = ap (λ (x : Entry). x.parent) own.1 ∙ ap table_of under in
    subst (CanPlace entries e) (sym is) (own.0, orders kid.id.number own.0 parent)

pub orders_of : (kept : KeptCatalogue) (h : History) (e : Entry) → CatalogueStands kept h → Suits (tables_made (catalogue_events h)) e → HaveOrders kept.entries e
orders_of kept h e st suits k lt parent =
    let made = tables_made (catalogue_events h) in
    let all : All (Suits made) (map entry_in kept.entries) = thin_all (IsGone h) (Suits made) (entries_added (catalogue_events h)) (map entry_in kept.entries) st.entries (all_suit h st.sound) in
    let within : k < length (map entry_in kept.entries) = omega (arith, lt, length-map kept.entries entry_in) in
    let at : get_or (map entry_in kept.entries) k no_entry.entry ≡ (get_or kept.entries k no_entry).entry = get_or-map entry_in kept.entries k no_entry no_entry.entry lt in
    let s : Suits made (get_or kept.entries k no_entry).entry = subst (Suits made) at (all k no_entry.entry within) in
    let takes : TakesBound (table_at made e.parent.number).shape (get_or kept.entries k no_entry).entry.bound =
    subst (λ (t : TableNo). TakesBound (table_at made t.number).shape (get_or kept.entries k no_entry).entry.bound) parent s.bound in
    have_an_order (table_at made e.parent.number).shape (get_or kept.entries k no_entry).entry.bound e.bound takes suits.bound

-- those below a table stand in plain order
abbrev Before : Bound → Bound → Type 0
Before a b = comes_after a b ≡ false

bound_at : (entries : List StoredEntry) (t : ℕ) (numbers : List ℕ) (i d : ℕ) → numbers ≡ map number_of (children (by_place entries) t) → i < length (children (by_place entries) t) → get_or (map bound_of (children (by_place entries) t)) i no_entry.entry.bound ≡ (get_or entries (get_or numbers i d) no_entry).entry.bound
bound_at entries t numbers i d are within =
    let kids = children (by_place entries) t in
    let kid : Entry = get_or kids i no_entry.entry in
    let own : IsOwn entries kid = all_children (IsOwn entries) (by_place entries) t (all_own entries) i no_entry.entry within in
    let is : get_or numbers i d ≡ kid.id.number = ap (λ ns. get_or ns i d) are ∙ get_or-map number_of kids i no_entry.entry d within in
    get_or-map bound_of kids i no_entry.entry no_entry.entry.bound within
    ∙ ap (λ (e : Entry). e.bound) (sym own.1)
    ∙ ap (λ n. (get_or entries n no_entry).entry.bound) (sym is)

pub stand_in_order : (entries : List StoredEntry) (t : ℕ) (numbers : List ℕ) → numbers ≡ map number_of (children (by_place entries) t) → AreInOrder entries numbers
stand_in_order entries t numbers are i j d lt le =
    let kids = children (by_place entries) t in
    let given = map bound_of (filter (is_under t) (by_place entries)) in
    let long : length numbers ≡ length kids = ap length are ∙ length-map kids number_of in
    let later : j < length kids = omega (arith, le, long) in
    let sooner : i < length kids = omega (arith, lt, later) in
    let within : j < length (map bound_of kids) = omega (arith, later, length-map kids bound_of) in
    let sorted : AllPairs Before (map bound_of kids) = subst (AllPairs Before) (sym (children_bounds (by_place entries) t)) (order_sorts given) in
    ap (λ a. comes_after a (get_or entries (get_or numbers j d) no_entry).entry.bound) (sym (bound_at entries t numbers i d are sooner))
    ∙ ap (comes_after (get_or (map bound_of kids) i no_entry.entry.bound)) (sym (bound_at entries t numbers j d are later))
    ∙ sorted i j no_entry.entry.bound lt within

-- the place of the first that stands behind a bound, looked for from behind
pub place_first : (entries : List StoredEntry) (b : Bound) (numbers : List ℕ) (i : ℕ) → i ≡ 0 → ((k d : ℕ) → i ≤ k → k < length numbers → stands_behind entries b (get_or numbers k d) ≡ true) → 0 ≡ position_or_len (stands_behind entries b) numbers
place_first entries b numbers i is behind =
    sym (position_or_len_is (stands_behind entries b) numbers 0 0 (omega arith) (λ k lt. absurd (omega (arith, lt))) (λ lt. behind 0 0 (omega (arith, is)) lt))

pub place_behind : (entries : List StoredEntry) (b : Bound) (numbers : List ℕ) (i at : ℕ) → 0 < i → i ≤ length numbers → at ≡ i → AreInOrder entries numbers → stands_behind entries b (get_or numbers (i - 1) 0) ≡ false → ((k d : ℕ) → i ≤ k → k < length numbers → stands_behind entries b (get_or numbers k d) ≡ true) → at ≡ position_or_len (stands_behind entries b) numbers
place_behind entries b numbers i at some within is sorted over behind =
    let last : ℕ = get_or numbers (i - 1) 0 in
    let bound_of_number : ℕ → Bound = λ n. (get_or entries n no_entry).entry.bound in
    let before : (k : ℕ) → k < i → stands_behind entries b (get_or numbers k 0) ≡ false = λ k lt. elim (cases_lt k (i - 1)) [
      | inl less ↦
          let earlier : stands_behind entries (bound_of_number last) (get_or numbers k 0) ≡ false = sorted k (i - 1) 0 less (omega (arith, some, within)) in
          le_trans plain_total (bound_of_number (get_or numbers k 0)) (bound_of_number last) b earlier over
      | inr more ↦
          let same : k ≡ i - 1 = omega (arith, lt, more) in
          ap (λ n. stands_behind entries b (get_or numbers n 0)) same ∙ over
    ] in
    is ∙ sym (position_or_len_is (stands_behind entries b) numbers i 0 within before (λ lt. behind i 0 (omega arith) lt))

-- ---- the counts

pub partitions_told : (kept : KeptCatalogue) (h : History) (s t : ℕ) (numbers : List ℕ) → IsSound (tx_events h) → CatalogueStands kept h → numbers ≡ map number_of (children (by_place kept.entries) t) → length (filter (present_by (tx_events h) s) (map (stored_at kept.entries) numbers)) ≡ partitions h s t
partitions_told kept h s t numbers sound st are =
    sym (length-map (filter (present_by (tx_events h) s) (map (stored_at kept.entries) numbers)) entry_in) ∙ ap length (passed_are kept h s t numbers sound st are)

length-filter_le : {X : Type 0} (p : X → Bool) (xs : List X) → length (filter p xs) ≤ length xs
length-filter_le p [] = omega arith
length-filter_le p (x ∷ xs) =
    let rest = length-filter_le p xs in
    elim (cases_Bool (p x)) [
      | inl y ↦ rw y (omega (arith, rest))
      | inr n ↦ rw n (omega (arith, rest))
    ]

-- few entries are few partitions
pub few_partitions : (kept : KeptCatalogue) (h : History) (s t : ℕ) (numbers : List ℕ) → IsSound (tx_events h) → CatalogueStands kept h → numbers ≡ map number_of (children (by_place kept.entries) t) → length numbers < 1024 → false ≡ nat_le 1024 (partitions h s t)
few_partitions kept h s t numbers sound st are few =
    let told = partitions_told kept h s t numbers sound st are in
    let all = map (stored_at kept.entries) numbers in
    let le : partitions h s t < 1024 = omega (arith, told, few, length-map numbers (stored_at kept.entries), length-filter_le (present_by (tx_events h) s) all) in
    grind (arith, nat_tests, le)

pub too_deep : (a b m : ℕ) → m ≡ min 9 b → 8 < a + m → 8 < a + b
too_deep a b m is deep = omega arith

pub deep_enough : (a b m : ℕ) → m ≡ min 9 b → a + m ≤ 8 → a + b ≤ 8
deep_enough a b m is low = omega arith
