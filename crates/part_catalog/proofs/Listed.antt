-- The entries below each table, after a table was made or an entry added.
use Rattle.std.proofs.Common.{◌≡◌, ◌≢◌, ℕ, suc, ◌+◌, ◌<◌, ◌++◌, arith, ap, refl, sym, subst, ◌∙◌, true, false, if◌then◌else◌, List, [], ◌∷◌, map, filter, length, get_or, slice_set, append-nil, inl, inr}
use Rattle.std.specs.List.{All, insert, position_or_len}
use Rattle.std.proofs.lemmas.Grind.{common_steps, elements}
use Rattle.std.proofs.lemmas.Bool.{cases_Bool, cases_lt}
use Rattle.std.proofs.lemmas.Bool.Decides.{nat_tests}
use Rattle.std.proofs.lemmas.List.{length-append, length-map, map-append, length-set, get_or-map}
use Rattle.std.proofs.lemmas.List.Elements.{All-head, All-tail, filter-append}
use Rattle.history.specs.declared.catalogue.Entry.{Entry}
use Rattle.bound_forms.specs.Bounds.{comes_after}
use Rattle.row_router.specs.Histories.{children, placed, all_placed, is_under}
use Rattle.row_router.proofs.Order.{all_children}
use Rattle.part_catalog.specs.declared.stored.StoredTable.{StoredTable}
use Rattle.part_catalog.specs.declared.stored.StoredEntry.{StoredEntry}
use Rattle.part_catalog.specs.declared.names.Names.{Names}
use Rattle.part_catalog.specs.Names.{NamesStand}
use Rattle.part_catalog.specs.Kept.{AreListed, IsBetween, IsKept, entry_in, name_in, number_of, no_entry, fresh, with_place, placed_from, by_place}
use Rattle.part_catalog.specs.Ordered.{stands_behind}
use Rattle.part_catalog.proofs.Grown.{IsOwn, all_own}
use Rattle.part_catalog.proofs.Places.{more_by_place, same_by_place}

none_from : (n : ℕ) (xs : List StoredEntry) (t : ℕ) → ((k : ℕ) → k < length xs → (get_or xs k no_entry).entry.parent.number < t) → filter (is_under t) (placed_from n xs) ≡ []
none_from n [] t below = refl
none_from n (x ∷ xs) t below =
    let first : x.entry.parent.number < t = below 0 (omega arith) in
    let other : is_under t (with_place n x.entry) ≡ false = grind (arith, nat_tests) in
    rw other (none_from (suc n) xs t (λ k lt. below (suc k) (omega (arith, lt))))

none_under : (xs : List StoredEntry) (t : ℕ) → ((k : ℕ) → k < length xs → (get_or xs k no_entry).entry.parent.number < t) → filter (is_under t) (by_place xs) ≡ []
none_under xs t below = none_from 0 xs t below

pub listed_with_table : (tables : List StoredTable) (entries : List StoredEntry) (below : List (List ℕ)) (t : StoredTable) → AreListed tables entries below → AreListed (tables ++ t ∷ []) entries (below ++ [] ∷ [])
listed_with_table tables entries below t l =
    let more : length (tables ++ t ∷ []) ≡ length tables + 1 = omega (arith, length-append tables (t ∷ [])) in
    record {
      between = λ k lt. record { parent = omega (arith, more, (l.between k lt).parent); child = omega (arith, more, (l.between k lt).child) };
      count = omega (arith, more, l.count, length-append below ([] ∷ []));
      below = λ n lt. elim (cases_lt n (length tables)) [
        | inl old ↦ grind (arith, common_steps, elements, l.below n old, l.count)
        | inr new ↦
            let at : n ≡ length below = omega (arith, more, l.count, lt) in
            let none = none_under entries n (λ k h. omega (arith, (l.between k h).parent)) in
            let here : get_or (below ++ [] ∷ []) n [] ≡ [] = grind (arith, common_steps, elements, at) in
            here ∙ ap (λ es. map number_of (all_placed [] es)) (sym none)
      ];
    }

-- ---- after an entry was added

all_placed_more : (done es : List Entry) (e : Entry) → all_placed done (es ++ e ∷ []) ≡ placed e (all_placed done es)
all_placed_more done [] e = refl
all_placed_more done (x ∷ es) e = all_placed_more (placed x done) es e

children_more : (es : List Entry) (e : Entry) (t : ℕ) → children (es ++ e ∷ []) t ≡ (if is_under t e then placed e (children es t) else children es t)
children_more es e t = elim (cases_Bool (is_under t e)) [
  | inl y ↦
      let here : filter (is_under t) (e ∷ []) ≡ e ∷ [] = rw y refl in
      rw y (ap (all_placed []) (filter-append (is_under t) es (e ∷ []) ∙ ap (λ l. filter (is_under t) es ++ l) here) ∙ all_placed_more [] (filter (is_under t) es) e)
  | inr n ↦
      let none : filter (is_under t) (e ∷ []) ≡ [] = rw n refl in
      rw n (ap (all_placed []) (filter-append (is_under t) es (e ∷ []) ∙ ap (λ l. filter (is_under t) es ++ l) none ∙ append-nil (filter (is_under t) es)))
]

placed_numbers : (entries : List StoredEntry) (e : Entry) (kids : List Entry) → All (IsOwn entries) kids → map number_of (placed e kids) ≡ insert (map number_of kids) (position_or_len (stands_behind entries e.bound) (map number_of kids)) (number_of e)
placed_numbers entries e [] own = refl
placed_numbers entries e (x ∷ kids) own =
    let first : IsOwn entries x = All-head (IsOwn entries) x kids own in
    let same : stands_behind entries e.bound x.id.number ≡ comes_after x.bound e.bound = ap (λ (y : Entry). comes_after y.bound e.bound) first.1 in
    elim (cases_Bool (comes_after x.bound e.bound)) [
      | inl y ↦ let s : stands_behind entries e.bound x.id.number ≡ true = same ∙ y in rw (y, s) refl
      | inr n ↦
          let s : stands_behind entries e.bound x.id.number ≡ false = same ∙ n in
          let at = position_or_len (stands_behind entries e.bound) (map number_of kids) in
          let next : 1 + at ≡ suc at = omega arith in
          rw (n, s, next) (ap (λ l. x.id.number ∷ l) (placed_numbers entries e kids (All-tail (IsOwn entries) x kids own)))
    ]

pub new_list : (entries : List StoredEntry) (e : Entry) (t at : ℕ) (list : List ℕ) → list ≡ map number_of (children (by_place entries) t) → at ≡ position_or_len (stands_behind entries e.bound) list
    → insert list at (length entries) ≡ map number_of (placed (with_place (length entries) e) (children (by_place entries) t))
new_list entries e t at list is here =
    ap (λ i. insert list i (length entries)) here
    ∙ ap (λ l. insert l (position_or_len (stands_behind entries e.bound) l) (length entries)) is
    ∙ sym (placed_numbers entries (with_place (length entries) e) (children (by_place entries) t) (all_children (IsOwn entries) (by_place entries) t (all_own entries)))

pub listed_with_entry : (tables : List StoredTable) (entries : List StoredEntry) (below : List (List ℕ)) (e : Entry) (list : List ℕ) → AreListed tables entries below → IsBetween tables (fresh e) → list ≡ map number_of (placed (with_place (length entries) e) (children (by_place entries) e.parent.number))
    → AreListed tables (entries ++ fresh e ∷ []) (slice_set below e.parent.number list)
listed_with_entry tables entries below e list l between is =
    let more : length (entries ++ fresh e ∷ []) ≡ length entries + 1 = omega (arith, length-append entries (fresh e ∷ [])) in
    let known : e.parent.number < length below = omega (arith, between.parent, l.count) in
    record {
      between = λ k lt. elim (cases_lt k (length entries)) [
        | inl old ↦
            let here : get_or (entries ++ fresh e ∷ []) k no_entry ≡ get_or entries k no_entry = grind (arith, common_steps, elements) in
            subst (IsBetween tables) (sym here) (l.between k old)
        | inr new ↦
            let at : k ≡ length entries = omega (arith, more, lt) in
            let here : get_or (entries ++ fresh e ∷ []) k no_entry ≡ fresh e = grind (arith, common_steps, elements, at) in
            subst (IsBetween tables) (sym here) between
      ];
      count = length-set below e.parent.number list ∙ l.count;
      below = λ t lt.
          let new : Entry = with_place (length entries) e in
          let kids = children (by_place entries) t in
          let after : children (by_place (entries ++ fresh e ∷ [])) t ≡ (if is_under t new then placed new kids else kids) = ap (λ es. children es t) (more_by_place entries (fresh e)) ∙ children_more (by_place entries) new t in
          elim (cases_Bool (is_under t new)) [
            | inl y ↦
                let same : e.parent.number ≡ t = grind (arith, nat_tests, y) in
                let here : get_or (slice_set below e.parent.number list) t [] ≡ list = grind (arith, common_steps, elements, same, known) in
                here ∙ is ∙ ap (λ n. map number_of (placed new (children (by_place entries) n))) same ∙ ap (map number_of) (sym (after ∙ rw y refl))
            | inr n ↦
                let other : e.parent.number ≢ t = grind (arith, nat_tests, n) in
                let here : get_or (slice_set below e.parent.number list) t [] ≡ get_or below t [] = grind (arith, common_steps, elements, other) in
                here ∙ l.below t lt ∙ ap (map number_of) (sym (after ∙ rw n refl))
          ];
    }

-- ---- what is always so of a catalogue

pub kept_with_table : (tables : List StoredTable) (entries : List StoredEntry) (numbers : List (List ℕ)) (old new : Names) (t : StoredTable) → IsKept tables entries numbers old → length tables < 4096 → NamesStand new (map name_in tables ++ t.table.name ∷ []) → IsKept (tables ++ t ∷ []) entries (numbers ++ [] ∷ []) new
kept_with_table tables entries numbers old new t k room names = record {
  listed = listed_with_table tables entries numbers t k.listed;
  few = omega (arith, length-append tables (t ∷ []), room);
  named = subst (NamesStand new) (sym (map-append name_in tables (t ∷ []))) names;
}

pub kept_with_entry : (tables : List StoredTable) (entries : List StoredEntry) (numbers : List (List ℕ)) (names : Names) (e : Entry) (list : List ℕ) → IsKept tables entries numbers names → IsBetween tables (fresh e) → list ≡ map number_of (placed (with_place (length entries) e) (children (by_place entries) e.parent.number))
    → IsKept tables (entries ++ fresh e ∷ []) (slice_set numbers e.parent.number list) names
kept_with_entry tables entries numbers names e list k between is = record {
  listed = listed_with_entry tables entries numbers e list k.listed between is;
  few = k.few;
  named = k.named;
}

-- tables that differ in their drops alone
pub kept_same_tables : (tables new : List StoredTable) (entries : List StoredEntry) (numbers : List (List ℕ)) (names : Names) → length new ≡ length tables → map name_in new ≡ map name_in tables → IsKept tables entries numbers names → IsKept new entries numbers names
kept_same_tables tables new entries numbers names count same k = record {
  listed = record {
    between = λ n lt. record { parent = omega (arith, count, (k.listed.between n lt).parent); child = omega (arith, count, (k.listed.between n lt).child) };
    count = omega (arith, count, k.listed.count);
    below = λ t lt. k.listed.below t (omega (arith, count, lt));
  };
  few = omega (arith, count, k.few);
  named = subst (NamesStand names) (sym same) k.named;
}

same_at : (entries new : List StoredEntry) (n : ℕ) → map entry_in new ≡ map entry_in entries → n < length new → n < length entries → (get_or new n no_entry).entry ≡ (get_or entries n no_entry).entry
same_at entries new n same lt old = sym (get_or-map entry_in new n no_entry no_entry.entry lt) ∙ ap (λ es. get_or es n no_entry.entry) same ∙ get_or-map entry_in entries n no_entry no_entry.entry old

-- entries that differ in their ends and marks alone
pub kept_same_entries : (tables : List StoredTable) (entries new : List StoredEntry) (numbers : List (List ℕ)) (names : Names) → map entry_in new ≡ map entry_in entries → IsKept tables entries numbers names → IsKept tables new numbers names
kept_same_entries tables entries new numbers names same k =
    let count : length new ≡ length entries = sym (length-map new entry_in) ∙ ap length same ∙ length-map entries entry_in in
    record {
      listed = record {
        between = λ n lt.
            let old : n < length entries = omega (arith, count, lt) in
            let e = same_at entries new n same lt old in
            let b = k.listed.between n old in
            record { parent = subst (λ (x : Entry). x.parent.number < length tables) (sym e) b.parent; child = subst (λ (x : Entry). x.child.number < length tables) (sym e) b.child };
        count = k.listed.count;
        below = λ t lt. k.listed.below t lt ∙ ap (λ es. map number_of (children es t)) (sym (same_by_place new entries same));
      };
      few = k.few;
      named = k.named;
    }
