-- A row of a table's columns may be asked of the table's path.
use Rattle.std.proofs.Common.{◌≡◌, ℕ, ◌<◌, ◌==◌, ◌&&◌, ◌||◌, arith, ap, refl, sym, subst, ◌∙◌, Bool, true, false, if◌then◌else◌, List, [], ◌∷◌, ◌++◌, Option, Some, None, map, filter, length, get_or, inl, inr}
use Rattle.std.specs.List.{All, list_any, position_or_len}
use Rattle.std.specs.Prelude.{find}
use Rattle.std.proofs.lemmas.Bool.{cases_Bool}
use Rattle.std.proofs.lemmas.Bool.Decides.{nat_tests}
use Rattle.std.proofs.lemmas.Grind.{common_steps, elements}
use Rattle.std.proofs.lemmas.List.{length-map, length-append}
use Rattle.std.proofs.lemmas.List.Elements.{All-cons, All-head, All-tail, All-nil}
use Rattle.pg_values.specs.declared.value.Value.{Value}
use Rattle.bound_forms.specs.declared.partition_bound.Bound.{Bound}
use Rattle.bound_forms.specs.Accepts.{FitsBound}
use Rattle.bound_forms.specs.Bounds.{comes_after, IsInPlainOrder}
use Rattle.bound_forms.specs.Levels.{IsOfLevel}
use Rattle.bound_forms.proofs.LevelLaws.{level_kind}
use Rattle.history.specs.declared.catalogue.Table.{Table}
use Rattle.history.specs.declared.catalogue.TableShape.{TableShape}
use Rattle.history.specs.declared.catalogue.TableShape.TheVariants.{Leaf, Level}
use Rattle.history.specs.declared.catalogue.Entry.{Entry}
use Rattle.history.specs.declared.catalogue.Check.{Check}
use Rattle.history.specs.Transactions.{TxEvents}
use Rattle.history.specs.Catalogue.{TableMade, CheckKept, tables_made, checks_kept}
use Rattle.history.specs.History.{History, CatalogueChange, tx_events, catalogue_events}
use Rattle.history.specs.Places.{table_at, LiesIn, AreCatalogueSound}
use Rattle.history.specs.Presence.{entries_present, checks_of, is_check_of, counts}
use Rattle.row_router.specs.declared.node.Node.{Node}
use Rattle.row_router.specs.Siblings.{AreSiblings}
use Rattle.row_router.specs.Trees.{TableTree, LeafTable, LevelTable, End, More, key_of, IsRowOf, IsSound, Fits}
use Rattle.row_router.specs.Histories.{placed, all_placed, children, bound_of, child_of_entry, is_under, is_over, above, is_entry, place_among, place_of, kept_of, parent_in, part_of, path_of, node_at, grown, tree_within, tree_of, ddl_tree}
use Rattle.row_router.proofs.RowsFit.{rows_fit}
use Rattle.row_router.proofs.Sound.{tree_sound, ddl_tree_sound}
use Rattle.row_router.specs.Paths.{CheckFits, FitsAt, PartFits}
use Rattle.row_change.specs.Laws.{IsRowIn, PathsFit, RowsCanBePlaced}
use Rattle.row_change.proofs.Made.{IsHere, upwards_all, goes_up, row_links, present_suit}

-- ---- an entry has a place among those below its parent

-- one of them is the entry
abbrev Has : (Entry → Bool) → List Entry → Type 0
Has p es = list_any p es ≡ true

or_right : (a b : Bool) → b ≡ true → (a || b) ≡ true
or_right true b e = refl
or_right false b e = e

has_placed : (p : Entry → Bool) (e : Entry) (xs : List Entry) → list_any p (placed e xs) ≡ (p e || list_any p xs)
has_placed p e [] = refl
has_placed p e (x ∷ xs) = elim (cases_Bool (comes_after x.bound e.bound)) [
  | inl y ↦ rw y refl
  | inr n ↦ rw n (ap (λ b. p x || b) (has_placed p e xs) ∙ swapped (p x) (p e) (list_any p xs))
]
  where
    swapped : (a b c : Bool) → (a || (b || c)) ≡ (b || (a || c))
    swapped true true c = refl
    swapped true false c = refl
    swapped false true c = refl
    swapped false false c = refl

has_all_placed : (p : Entry → Bool) (done es : List Entry) → (list_any p done || list_any p es) ≡ true → Has p (all_placed done es)
has_all_placed p done [] is = left (list_any p done) is
  where
    left : (a : Bool) → (a || false) ≡ true → a ≡ true
    left true e = refl
    left false e = e
has_all_placed p done (e ∷ es) is =
    has_all_placed p (placed e done) es (ap (λ b. b || list_any p es) (has_placed p e done) ∙ (turned (p e) (list_any p done) (list_any p es) ∙ is))
  where
    turned : (a b c : Bool) → ((a || b) || c) ≡ (b || (a || c))
    turned true true c = refl
    turned true false c = refl
    turned false true c = refl
    turned false false c = refl

-- one that is found, and passes two more tests, is among those that pass the one
has_found : (q r p : Entry → Bool) (es : List Entry) (e : Entry) → find q es ≡ Some e → r e ≡ true → p e ≡ true → Has p (filter r es)
has_found q r p [] e found is test = absurd (cc)
has_found q r p (x ∷ xs) e found is test = elim (cases_Bool (q x)) [
  | inl y ↦
      let here : x ≡ e = first_is x e (find q xs) (q x) y found in
      let keeps : r x ≡ true = ap r here ∙ is in
      let passes : p x ≡ true = ap p here ∙ test in
      rw (keeps, passes) refl
  | inr n ↦
      let later : find q xs ≡ Some e = not_first x e (find q xs) (q x) n found in
      let rest = has_found q r p xs e later is test in
      elim (cases_Bool (r x)) [ inl y ↦ rw y (or_right (p x) (list_any p (filter r xs)) rest) | inr m ↦ rw m rest ]
]
  where
    first_is : (x e : Entry) (o : Option Entry) (b : Bool) → b ≡ true → (if b then Some x else o) ≡ Some e → x ≡ e
    first_is x e o true is found = cc
    first_is x e o false is found = absurd (cc)

    not_first : (x e : Entry) (o : Option Entry) (b : Bool) → b ≡ false → (if b then Some x else o) ≡ Some e → o ≡ Some e
    not_first x e o true is found = absurd (cc)
    not_first x e o false is found = found

has_place : (p : Entry → Bool) (es : List Entry) → Has p es → position_or_len p es < length es
has_place p [] has = absurd (cc)
has_place p (e ∷ es) has = elim (cases_Bool (p e)) [
  | inl y ↦ rw y (omega arith)
  | inr n ↦
      let rest : list_any p es ≡ true = later (p e) (list_any p es) n has in
      let lt = has_place p es rest in
      rw n (omega (arith, lt))
]
  where
    later : (a b : Bool) → a ≡ false → (a || b) ≡ true → b ≡ true
    later true b n e = absurd (cc)
    later false b n e = e

-- ---- the place of a table

has_bound : (kids : List Entry) (e : Entry) → Has (is_entry e) kids → position_or_len (is_entry e) kids < length (map bound_of kids)
has_bound kids e has = let lt = has_place (is_entry e) kids has in omega (arith, length-map kids bound_of, lt)

grown_fits : (row : List Value) (shape : TableShape) (node : Node) (kids : List Entry) (trees : List TableTree) (e : Entry) → Has (is_entry e) kids → Fits row (grown shape node (map bound_of kids) trees) → FitsAt row (place_among kids shape e)
grown_fits row (Leaf leaf) node kids trees e has fits = tt
grown_fits row (Level level) node kids trees e has fits = (has_bound kids e has, fits.1, fits.2)

-- the row is one of the parent's columns
place_fits : (h : History) (session : ℕ) (row : List Value) (e : Entry) → AreCatalogueSound h → AreSiblings (entries_present h session) → IsRowOf (table_at (tables_made (catalogue_events h)) e.parent.number).columns row → Has (is_entry e) (children (entries_present h session) e.parent.number)
    → FitsAt row (place_among (children (entries_present h session) e.parent.number) (table_at (tables_made (catalogue_events h)) e.parent.number).shape e)
unfolding Rattle.row_router.specs.Histories.ddl_tree
place_fits h session row e sound siblings r has =
    let tables = tables_made (catalogue_events h) in
    let entries = entries_present h session in
    let p = e.parent.number in
    let fits : Fits row (ddl_tree h session p) = rows_fit (table_at tables p).columns row (ddl_tree h session p) (ddl_tree_sound h session p sound siblings) r in
    grown_fits row (table_at tables p).shape (node_at tables p p) (children entries p) (map (λ (x : Entry). tree_within 6 tables entries p (child_of_entry x)) (children entries p)) e has fits

entry_is_itself : (e : Entry) → is_entry e e ≡ true
entry_is_itself e = grind (arith, nat_tests)

under_parent : (e : Entry) → is_under e.parent.number e ≡ true
under_parent e = grind (arith, nat_tests)

has_child : (entries : List Entry) (t : ℕ) (e : Entry) → above entries t ≡ Some e → Has (is_entry e) (children entries e.parent.number)
has_child entries t e found =
    has_all_placed (is_entry e) [] (filter (is_under e.parent.number) entries) (has_found (is_over t) (is_under e.parent.number) (is_entry e) entries e found (under_parent e) (entry_is_itself e))

above_fits : (h : History) (session : ℕ) (row : List Value) (t : ℕ) (o : Option Entry) → above (entries_present h session) t ≡ o → AreCatalogueSound h → AreSiblings (entries_present h session) → IsHere (IsRowIn h row) (parent_in o)
    → FitsAt row (place_of (tables_made (catalogue_events h)) (entries_present h session) o)
above_fits h session row t None found sound siblings up = tt
above_fits h session row t (Some e) found sound siblings up = place_fits h session row e sound siblings up.1 (has_child (entries_present h session) t e found)

-- ---- the CHECKs of a table

-- the CHECK is one of the table's columns
record SuitsCheck (tables : List Table) (c : Check) : Type 0 where
  made : c.table.number < length tables
  bound : IsOfLevel c.kept.level c.kept.bound
  keys : All (LiesIn (table_at tables c.table.number).columns) c.kept.level.columns

same_table : (tables : List Table) (t : Table) (k : ℕ) → k < length tables → table_at tables k ≡ table_at (tables ++ t ∷ []) k
same_table tables t k lt = grind (arith, common_steps, elements)

check_stays : (tables : List Table) (t : Table) (c : Check) → SuitsCheck tables c → SuitsCheck (tables ++ t ∷ []) c
check_stays tables t c s =
    record {
      made = omega (arith, length-append tables (t ∷ []), s.made);
      bound = s.bound;
      keys = subst (λ (x : Table). All (LiesIn x.columns) c.kept.level.columns) (same_table tables t c.table.number s.made) s.keys;
    }

checks_stay : (tables : List Table) (t : Table) (cs : List Check) → All (SuitsCheck tables) cs → All (SuitsCheck (tables ++ t ∷ [])) cs
checks_stay tables t cs all k d lt = check_stays tables t (get_or cs k d) (all k d lt)

one_more_check : (tables : List Table) (cs : List Check) (c : Check) → All (SuitsCheck tables) cs → SuitsCheck tables c → All (SuitsCheck tables) (cs ++ c ∷ [])
one_more_check tables [] c all is = All-cons (SuitsCheck tables) c [] is all
one_more_check tables (x ∷ cs) c all is = All-cons (SuitsCheck tables) x (cs ++ c ∷ []) (All-head (SuitsCheck tables) x cs all) (one_more_check tables cs c (All-tail (SuitsCheck tables) x cs all) is)

checks_suit : (h : History) → AreCatalogueSound h → All (SuitsCheck (tables_made (catalogue_events h))) (checks_kept (catalogue_events h))
checks_suit [] sound = All-nil (SuitsCheck [])
checks_suit (CatalogueChange (TableMade t) ∷ h) sound = checks_stay (tables_made (catalogue_events h)) t (checks_kept (catalogue_events h)) (checks_suit h sound.1)
checks_suit (CatalogueChange (CheckKept c) ∷ h) sound = one_more_check (tables_made (catalogue_events h)) (checks_kept (catalogue_events h)) c (checks_suit h sound.1) (record { made = sound.0.0; bound = sound.0.1; keys = sound.0.2 })
checks_suit (CatalogueChange e ∷ h) sound = checks_suit h sound.1
checks_suit (_ ∷ h) sound = checks_suit h sound

-- no partition stands below a level with one bound and a leaf for it
abbrev one_leaf : Node → Bound → TableTree
one_leaf node b = LeafTable node (record { number = 0 })

check_fits : (tables : List Table) (row : List Value) (c : Check) → SuitsCheck tables c → IsRowOf (table_at tables c.table.number).columns row → CheckFits row c.kept
check_fits tables row c s r =
    let node = node_at tables 0 0 in
    let level = c.kept.level in
    let order : IsInPlainOrder (c.kept.bound ∷ []) = record { sorted = λ i j d lt le. absurd (omega arith); apart = λ i j d lt le. absurd (omega arith); siblings = λ i j d lt le. absurd (omega arith) } in
    let sound : IsSound (table_at tables c.table.number).columns (LevelTable node level (c.kept.bound ∷ []) (More (one_leaf node c.kept.bound) End)) = (refl, All-cons (IsOfLevel level) c.kept.bound [] s.bound (All-nil (IsOfLevel level)), order, s.keys, (tt, tt)) in
    let fits : Fits row (LevelTable node level (c.kept.bound ∷ []) (More (one_leaf node c.kept.bound) End)) = rows_fit (table_at tables c.table.number).columns row (LevelTable node level (c.kept.bound ∷ []) (More (one_leaf node c.kept.bound) End)) sound r in
    (fits.1, All-head (FitsBound (key_of level row)) c.kept.bound [] fits.2, level_kind level c.kept.bound s.bound)

both_parts : (a b : Bool) → (a && b) ≡ true → a ≡ true
both_parts true b e = refl
both_parts false b e = absurd (cc)

checks_fit : (tables : List Table) (txs : TxEvents) (session t : ℕ) (row : List Value) (cs : List Check) → All (SuitsCheck tables) cs → IsRowOf (table_at tables t).columns row → All (CheckFits row) (map kept_of (filter (is_check_of txs session t) cs))
checks_fit tables txs session t row [] all r = All-nil (CheckFits row)
checks_fit tables txs session t row (c ∷ cs) all r =
    let rest = checks_fit tables txs session t row cs (All-tail (SuitsCheck tables) c cs all) r in
    elim (cases_Bool (is_check_of txs session t c)) [
      | inl y ↦
          let test = both_parts (c.table.number == t) (counts txs session c.by.number) y in
          let at : c.table.number ≡ t = grind (arith, nat_tests, test) in
          let own : IsRowOf (table_at tables c.table.number).columns row = subst (λ n. IsRowOf (table_at tables n).columns row) (sym at) r in
          rw y (All-cons (CheckFits row) c.kept (map kept_of (filter (is_check_of txs session t) cs)) (check_fits tables row c (All-head (SuitsCheck tables) c cs all) own) rest)
      | inr n ↦ rw n rest
    ]

-- ---- the laws

pub paths_fit : PathsFit
unfolding Rattle.row_router.specs.Histories.path_of
paths_fit h session t row sound siblings is =
    let tables = tables_made (catalogue_events h) in
    let entries = entries_present h session in
    let up = goes_up (IsRowIn h row) tables entries (row_links h row) (present_suit h session sound) in
    upwards_all (IsRowIn h row) (PartFits row) (part_of tables entries (checks_of h session)) (above entries) up
    (λ k here. (above_fits h session row k (above entries k) refl sound siblings (up k here), checks_fit tables (tx_events h) session k row (checks_kept (catalogue_events h)) (checks_suit h sound) here.1))
    8 (Some t.number) is

pub rows_can_be_placed : RowsCanBePlaced
rows_can_be_placed h session t snap row sound siblings is =
    (rows_fit (table_at (tables_made (catalogue_events h)) t.number).columns row (tree_of h session t.number snap) (tree_sound h session t.number snap sound siblings) is.1, paths_fit h session t row sound siblings is)
