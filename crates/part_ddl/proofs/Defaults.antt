-- The default partition of a table, found by its place.
use Rattle.std.proofs.Common.{◌≡◌, ℕ, suc, ◌+◌, ◌<◌, ◌≤◌, arith, ap, refl, sym, subst, ◌∙◌, true, false, if◌then◌else◌, List, [], ◌∷◌, Option, Some, None, length, map, get_or, inl, inr}
use Rattle.std.specs.Prelude.{nat_lt}
use Rattle.std.specs.List.{All, find, last_or, position, position_or_len}
use Rattle.std.specs.Option.{option_map, option_to_list}
use Rattle.std.proofs.lemmas.Bool.{cases_Bool, cases_lt}
use Rattle.std.proofs.lemmas.Bool.Decides.{nat_tests}
use Rattle.std.proofs.lemmas.List.{get_or-map, length-map}
use Rattle.std.proofs.lemmas.List.Elements.{All-head}
use Rattle.pg_values.specs.declared.ids.LeafId.{LeafId}
use Rattle.bound_forms.specs.declared.level.Level.{Level as OneLevel}
use Rattle.bound_forms.specs.declared.partition_bound.Bound.{Bound}
use Rattle.bound_forms.specs.Accepts.{is_default}
use Rattle.history.specs.declared.catalogue.Entry.{Entry}
use Rattle.history.specs.declared.catalogue.TableShape.{TableShape}
use Rattle.history.specs.declared.catalogue.TableShape.TheVariants.{Leaf, Level}
use Rattle.history.specs.Catalogue.{tables_made, entries_added}
use Rattle.history.specs.History.{History, catalogue_events}
use Rattle.history.specs.Places.{table_at, TakesBound, Suits, AreCatalogueSound}
use Rattle.history.specs.Presence.{is_present, entries_present}
use Rattle.tx_table.specs.Kept.{KeptTable}
use Rattle.tx_table.specs.Stands.{TableStands}
use Rattle.row_router.specs.declared.tree.Tree.{Tree}
use Rattle.row_router.specs.Histories.{bound_of}
use Rattle.row_router.specs.Siblings.{AreSiblings}
use Rattle.row_router.proofs.Defaults.{default_last}
use Rattle.row_router.proofs.Order.{all_children, all_kept, siblings_in_order, under_children}
use Rattle.row_router.proofs.Suited.{all_suit}
use Rattle.part_catalog.specs.Found.{made_at}
use Rattle.part_catalog.specs.Answers.{AreTogether}
use Rattle.part_catalog.specs.Kept.{KeptCatalogue, no_entry}
use Rattle.part_catalog.specs.Stands.{CatalogueStands}
use Rattle.part_ddl.specs.Below.{default_among, default_of, has_default_bound}
use Rattle.part_ddl.specs.Placing.{partitions_of}
use Rattle.part_ddl.proofs.Kids.{IsTold, tree_table, entry_child}
use Rattle.part_ddl.proofs.Standing.{same_entries}

-- ---- a place and what stands there

pub place_of_first : (n m k : ℕ) → Some k ≡ (if nat_lt n m then Some n else None) → (k ≡ n) × (n < m)
place_of_first n m k is = elim (cases_lt n m) [
  | inl lt ↦
      let test : nat_lt n m ≡ true = grind (arith, nat_tests) in
      let same : Some k ≡ Some n = rw test at is in
      (cc, lt)
  | inr ge ↦
      let test : nat_lt n m ≡ false = grind (arith, nat_tests) in
      let same : Some k ≡ None = rw test at is in
      absurd (cc)
]

no_place : (n m : ℕ) → None ≡ (if nat_lt n m then Some n else None) → m ≤ n
no_place n m is = elim (cases_lt n m) [
  | inl lt ↦
      let test : nat_lt n m ≡ true = grind (arith, nat_tests) in
      let same : None ≡ Some n = rw test at is in
      absurd (cc)
  | inr ge ↦ omega arith
]

first_found : (es : List Entry) (d : Entry) → position_or_len is_default (map bound_of es) < length es → find has_default_bound es ≡ Some (get_or es (position_or_len is_default (map bound_of es)) d)
first_found [] d lt = absurd (omega arith)
first_found (x ∷ xs) d lt = elim (cases_Bool (is_default x.bound)) [
  | inl y ↦ rw y refl
  | inr n ↦
      let next : 1 + position_or_len is_default (map bound_of xs) ≡ suc (position_or_len is_default (map bound_of xs)) = omega arith in
      let less : 1 + position_or_len is_default (map bound_of xs) < suc (length xs) = rw n at lt in
      rw (n, next) (first_found xs d (omega (arith, less)))
]

none_found : (es : List Entry) → length es ≤ position_or_len is_default (map bound_of es) → find has_default_bound es ≡ None
none_found [] le = refl
none_found (x ∷ xs) le = elim (cases_Bool (is_default x.bound)) [
  | inl y ↦ let less : suc (length xs) ≤ 0 = rw y at le in absurd (omega (arith, less))
  | inr n ↦
      let less : suc (length xs) ≤ 1 + position_or_len is_default (map bound_of xs) = rw n at le in
      rw n (none_found xs (omega (arith, less)))
]

-- ---- as the code finds it

pub default_is : (h : History) (s p : ℕ) (level : OneLevel) (bs : List Bound) (trees : List Tree) (i : ℕ) (x : Tree) → IsTold h s p level bs trees → Some i ≡ position is_default bs → x ≡ get_or trees i x → Some x.node.table ≡ default_of h s p
default_is h s p level bs trees i x told at is =
    let es = partitions_of h s p in
    let first : Some i ≡ position is_default (map bound_of es) = at ∙ ap (position is_default) told.bounds in
    let place = place_of_first (position_or_len is_default (map bound_of es)) (length (map bound_of es)) i first in
    let count : length (map bound_of es) ≡ length es = length-map es bound_of in
    let within : i < length es = omega (arith, place.0, place.1, count) in
    let here : i < length trees = omega (arith, within, count, told.paired, ap (length {A = Bound}) told.bounds) in
    let found : find has_default_bound es ≡ Some (get_or es i no_entry.entry) = first_found es no_entry.entry (omega (arith, place.1, count)) ∙ ap (λ n. Some (get_or es n no_entry.entry)) (sym place.0) in
    let mine : get_or (map tree_table trees) i no_entry.entry.child ≡ x.node.table = get_or-map tree_table trees i x no_entry.entry.child here ∙ ap tree_table (sym is) in
    let theirs : get_or (map entry_child es) i no_entry.entry.child ≡ (get_or es i no_entry.entry).child = get_or-map entry_child es i no_entry.entry no_entry.entry.child within in
    let same : x.node.table ≡ (get_or es i no_entry.entry).child = sym mine ∙ ap (λ ts. get_or ts i no_entry.entry.child) told.tables ∙ theirs in
    ap Some same ∙ sym (ap (option_map entry_child) found)

pub no_default : (h : History) (s p : ℕ) (level : OneLevel) (bs : List Bound) (trees : List Tree) → IsTold h s p level bs trees → None ≡ position is_default bs → None ≡ default_of h s p
no_default h s p level bs trees told at =
    let es = partitions_of h s p in
    let first : None ≡ position is_default (map bound_of es) = at ∙ ap (position is_default) told.bounds in
    let count : length (map bound_of es) ≡ length es = length-map es bound_of in
    let past = no_place (position_or_len is_default (map bound_of es)) (length (map bound_of es)) first in
    sym (ap (option_map entry_child) (none_found es (omega (arith, past, count))))

pub none_below : (shape : TableShape) (leaf : LeafId) (b : Bound) → shape ≡ Leaf leaf → TakesBound shape b → ⊥
none_below (Leaf own) leaf b is takes = takes
none_below (Level level) leaf b is takes = cc

no_partitions : (h : History) (t : ℕ) (leaf : LeafId) (es : List Entry) → (made_at h t).shape ≡ Leaf leaf → All (Suits (tables_made (catalogue_events h))) es → All (λ e. e.parent.number ≡ t) es → es ≡ []
no_partitions h t leaf [] is suits under = refl
no_partitions h t leaf (e ∷ es) is suits under =
    let tables = tables_made (catalogue_events h) in
    let parent : e.parent.number ≡ t = All-head (λ (x : Entry). x.parent.number ≡ t) e es under in
    let takes : TakesBound (table_at tables t).shape e.bound = subst (λ n. TakesBound (table_at tables n).shape e.bound) parent (All-head (Suits tables) e es suits).bound in
    absurd (none_below (made_at h t).shape leaf e.bound is takes)

pub leaf_has_none : (h : History) (s t : ℕ) (leaf : LeafId) → AreCatalogueSound h → (made_at h t).shape ≡ Leaf leaf → None ≡ default_of h s t
leaf_has_none h s t leaf sound is =
    let tables = tables_made (catalogue_events h) in
    let entries = entries_present h s in
    let suits : All (Suits tables) entries = all_kept (Suits tables) (is_present h s) (entries_added (catalogue_events h)) (all_suit h sound) in
    let none = no_partitions h t leaf (partitions_of h s t) is (all_children (Suits tables) entries t suits) (under_children entries t) in
    sym (ap (λ (es : List Entry). option_map entry_child (find has_default_bound es)) none)

-- ---- as the last entry tells it

-- no other than the last is a default
abbrev IsLastDefault : List Entry → Type 0
IsLastDefault es = (i : ℕ) → i < length es → has_default_bound (get_or es i no_entry.entry) ≡ true → suc i ≡ length es

told_by_last : (es : List Entry) → IsLastDefault es → default_among (option_to_list (last_or None es)) ≡ default_among es
told_by_last [] last = refl
told_by_last (e ∷ []) last = refl
told_by_last (e ∷ (x ∷ xs)) last =
    let rest = told_by_last (x ∷ xs) (λ i lt is. let more : suc (suc i) ≡ suc (length (x ∷ xs)) = last (suc i) (omega (arith, lt)) is in omega (arith, more)) in
    elim (cases_Bool (is_default e.bound)) [
      | inl y ↦ let one : 1 ≡ suc (suc (length xs)) = last 0 (omega arith) y in absurd (omega (arith, one))
      | inr n ↦ rw n rest
    ]

stands_last : (h : History) (s p : ℕ) → AreSiblings (entries_present h s) → IsLastDefault (partitions_of h s p)
stands_last h s p siblings = λ i lt is.
    let es = partitions_of h s p in
    let count : length (map bound_of es) ≡ length es = length-map es bound_of in
    let at : get_or (map bound_of es) i no_entry.entry.bound ≡ (get_or es i no_entry.entry).bound = get_or-map bound_of es i no_entry.entry no_entry.entry.bound lt in
    let end = default_last (map bound_of es) i no_entry.entry.bound (siblings_in_order (entries_present h s) p siblings) (omega (arith, lt, count)) (ap is_default at ∙ is) in
    omega (arith, end, count)

pub last_tells : (table : KeptTable) (kept : KeptCatalogue) (h : History) (s p : ℕ) (o : Option Entry) → AreTogether table kept s → TableStands table h → CatalogueStands kept h → o ≡ last_or None (partitions_of h s p) → default_among (option_to_list o) ≡ default_of h s p
last_tells table kept h s p o both txs st is =
    let siblings : AreSiblings (entries_present h s) = subst AreSiblings (same_entries table kept both.h h both.txs txs both.catalogue st s) both.siblings in
    ap (λ q. default_among (option_to_list q)) is ∙ told_by_last (partitions_of h s p) (stands_last h s p siblings)
