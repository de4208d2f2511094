-- The tables that a catalogue speaks of: those of trees, of defaults and of places above.
use Rattle.std.proofs.Common.{◌<◌, ◌≤◌, ℕ, zero, suc, ◌+◌, max, Bool, List, [], ◌∷◌, Option, Some, None, IfSome, sym, subst, inl, inr, All, map, filter, length, arith}
use Rattle.std.specs.Prelude.{find, option_map}
use Rattle.std.proofs.lemmas.Bool.{cases_Bool}
use Rattle.std.proofs.lemmas.List.{length-append}
use Rattle.std.proofs.lemmas.List.Elements.{All-nil, All-cons, All-head, All-tail, All-append, All-map, All-filter, All-push}
use Rattle.pg_values.specs.declared.ids.TableNo.{TableNo}
use Rattle.bound_forms.specs.declared.partition_bound.Bound.{Bound}
use Rattle.bound_forms.specs.Bounds.{comes_after}
use Rattle.history.specs.declared.catalogue.Entry.{Entry}
use Rattle.history.specs.declared.catalogue.Table.{Table}
use Rattle.history.specs.declared.catalogue.TableShape.{TableShape}
use Rattle.history.specs.declared.catalogue.TableShape.TheVariants.{Leaf, Level}
use Rattle.history.specs.Catalogue.{CatalogueEvents, TableMade, TableDropped, EntryAdded, EntryEnded, EntryMarked, CheckKept, tables_made, entries_added}
use Rattle.history.specs.Snapshots.{TakenSnapshot}
use Rattle.history.specs.History.{History, catalogue_events}
use Rattle.history.specs.Places.{table_at}
use Rattle.history.specs.Presence.{is_present, is_shown, entries_present, entries_shown}
use Rattle.row_router.specs.declared.node.Node.{Node}
use Rattle.row_router.specs.Trees.{TableTree, LeafTable, LevelTable, Trees, End, More, trees_of}
use Rattle.row_router.specs.Histories.{tree_within, tree_of, ddl_tree, node_at, grown, children, placed, all_placed, is_under, bound_of, child_of_entry, is_over, above}
use Rattle.row_change.specs.Ways.{AllTables, AllTablesOf}
use Rattle.part_catalog.specs.Answers.{parent_told}
use Rattle.part_ddl.specs.Below.{tables_in, all_tables, below_top, tables_from, tables_under, has_default_bound, default_of}
use Rattle.part_ddl.specs.Placing.{partitions_of}
use Rattle.run_ends.specs.NamedTables.{tables_named}
use Rattle.run_ends.proofs.StatementParts.{IsBelow, Attempt, Now}

-- ---- the number is above all of a catalogue

entries_rise : (a b : ℕ) → a ≤ b → (e : Entry) → IsBelow a e → IsBelow b e
entries_rise a b le e is = let p = is.parent in let c = is.child in record { parent = omega (arith, le, p); child = omega (arith, le, c) }

all_rise : (a b : ℕ) (es : List Entry) → a ≤ b → All (IsBelow a) es → All (IsBelow b) es
all_rise a b [] le all = All-nil (IsBelow b)
all_rise a b (e ∷ es) le all = All-cons (IsBelow b) e es (entries_rise a b le e (All-head (IsBelow a) e es all)) (all_rise a b es le (All-tail (IsBelow a) e es all))

pub tables_below : (c : CatalogueEvents) → length (tables_made c) ≤ tables_named c
tables_below [] = omega arith
tables_below (TableMade t ∷ c) = let h = tables_below c in let n = length-append (tables_made c) (t ∷ []) in omega (arith, h, n)
tables_below (TableDropped n s ∷ c) = tables_below c
tables_below (EntryAdded e ∷ c) = let h = tables_below c in omega (arith, h)
tables_below (EntryEnded n s ∷ c) = tables_below c
tables_below (EntryMarked n s ∷ c) = tables_below c
tables_below (CheckKept x ∷ c) = tables_below c

pub entries_below : (c : CatalogueEvents) → All (IsBelow (tables_named c)) (entries_added c)
entries_below [] = All-nil (IsBelow 0)
entries_below (TableMade t ∷ c) = all_rise (tables_named c) (tables_named c + 1) (entries_added c) (omega arith) (entries_below c)
entries_below (TableDropped n s ∷ c) = entries_below c
entries_below (EntryAdded e ∷ c) =
    let n = max (tables_named c) (max (e.parent.number + 1) (e.child.number + 1)) in
    All-push (IsBelow n) (entries_added c) e (all_rise (tables_named c) n (entries_added c) (omega arith) (entries_below c)) (record { parent = omega arith; child = omega arith })
entries_below (EntryEnded n s ∷ c) = entries_below c
entries_below (EntryMarked n s ∷ c) = entries_below c
entries_below (CheckKept x ∷ c) = entries_below c

-- ---- entries below a table

placed_one : (P : Entry → Type 0) (e : Entry) (xs : List Entry) → P e → All P xs → All P (placed e xs)
placed_one P e [] is all = All-cons P e [] is all
placed_one P e (x ∷ xs) is all = elim (cases_Bool (comes_after x.bound e.bound)) [
  | inl t ↦ rw t (All-cons P e (x ∷ xs) is all)
  | inr f ↦ rw f (All-cons P x (placed e xs) (All-head P x xs all) (placed_one P e xs is (All-tail P x xs all)))
]

placed_all : (P : Entry → Type 0) (done es : List Entry) → All P done → All P es → All P (all_placed done es)
placed_all P done [] before all = before
placed_all P done (e ∷ es) before all = placed_all P (placed e done) es (placed_one P e done (All-head P e es all) before) (All-tail P e es all)

children_all : (P : Entry → Type 0) (entries : List Entry) (t : ℕ) → All P entries → All P (children entries t)
children_all P entries t all = placed_all P [] (filter (is_under t) entries) (All-nil P) (All-filter (is_under t) P entries all)

-- ---- trees

abbrev pub IsLow : Attempt → TableNo → Type 0
IsLow k t = t.number < k.bound

kids_low : (k : Attempt) (f : ℕ → TableTree) (es : List Entry) → ((t : ℕ) → t < k.bound → AllTables (IsLow k) (f t)) → All (IsBelow k.bound) es → AllTablesOf (IsLow k) (trees_of (map (λ (e : Entry). f (child_of_entry e)) es))
kids_low k f [] each all = tt
kids_low k f (e ∷ es) each all = (each (child_of_entry e) (All-head (IsBelow k.bound) e es all).child, kids_low k f es each (All-tail (IsBelow k.bound) e es all))

grown_low : (k : Attempt) (shape : TableShape) (node : Node) (bounds : List Bound) (kids : List TableTree) → IsLow k node.table → AllTablesOf (IsLow k) (trees_of kids) → AllTables (IsLow k) (grown shape node bounds kids)
grown_low k (Leaf leaf) node bounds kids here below = here
grown_low k (Level level) node bounds kids here below = (here, below)

within_low : (k : Attempt) (tables : List Table) (entries : List Entry) (named n t : ℕ) → All (IsBelow k.bound) entries → t < k.bound → AllTables (IsLow k) (tree_within n tables entries named t)
within_low k tables entries named zero t all low = grown_low k (table_at tables t).shape (node_at tables named t) [] [] low tt
within_low k tables entries named (suc n) t all low =
    grown_low k (table_at tables t).shape (node_at tables named t) (map bound_of (children entries t)) (map (λ e. tree_within n tables entries named (child_of_entry e)) (children entries t)) low
    (kids_low k (λ c. tree_within n tables entries named c) (children entries t) (λ c is. within_low k tables entries named n c all is) (children_all (IsBelow k.bound) entries t all))

module _ (k : Attempt) (h : History) (now : Now k h) where
  all_entries : All (IsBelow k.bound) (entries_added (catalogue_events h))
  all_entries = subst (λ c. All (IsBelow k.bound) (entries_added c)) (sym now.still) k.entries

  present_low : (s : ℕ) → All (IsBelow k.bound) (entries_present h s)
  present_low s = All-filter (is_present h s) (IsBelow k.bound) (entries_added (catalogue_events h)) all_entries

  pub tree_low : (s t : ℕ) (snap : TakenSnapshot) → t < k.bound → AllTables (IsLow k) (tree_of h s t snap)
  unfolding tree_of
  tree_low s t snap low =
      within_low k (tables_made (catalogue_events h)) (entries_shown h s snap) t 7 t (All-filter (is_shown h s snap) (IsBelow k.bound) (entries_added (catalogue_events h)) all_entries) low

  pub ddl_low : (s t : ℕ) → t < k.bound → AllTables (IsLow k) (ddl_tree h s t)
  unfolding ddl_tree
  ddl_low s t low = within_low k (tables_made (catalogue_events h)) (entries_present h s) t 7 t (present_low s) low

-- ---- their tables as a list

mutual
  in_low : (k : Attempt) (tree : TableTree) → AllTables (IsLow k) tree → All (IsLow k) (tables_in tree)
  in_low k (LeafTable node leaf) all = All-cons (IsLow k) node.table [] all (All-nil (IsLow k))
  in_low k (LevelTable node level bounds kids) all = All-cons (IsLow k) node.table (all_tables kids) all.0 (of_low k kids all.1)

  of_low : (k : Attempt) (kids : Trees) → AllTablesOf (IsLow k) kids → All (IsLow k) (all_tables kids)
  of_low k End all = All-nil (IsLow k)
  of_low k (More t ts) all = All-append (IsLow k) (tables_in t) (all_tables ts) (in_low k t all.0) (of_low k ts all.1)

top_low : (k : Attempt) (tree : TableTree) → AllTables (IsLow k) tree → All (IsLow k) (below_top tree)
top_low k (LeafTable node leaf) all = All-nil (IsLow k)
top_low k (LevelTable node level bounds kids) all = of_low k kids all.1

-- by their numbers
pub numbers_low : (k : Attempt) (tables : List TableNo) → All (IsLow k) tables → All (λ n. n < k.bound) (map (λ t. t.number) tables)
numbers_low k tables all = All-map (λ n. n < k.bound) (λ t. t.number) tables all

found_one : {X : Type 0} (P : X → Type 0) (test : X → Bool) (xs : List X) → All P xs → IfSome (find test xs) P
found_one P test [] all = tt
found_one P test (x ∷ xs) all = elim (cases_Bool (test x)) [
  | inl t ↦ rw t (All-head P x xs all)
  | inr f ↦ rw f (found_one P test xs (All-tail P x xs all))
]

child_low : (k : Attempt) (o : Option Entry) → IfSome o (IsBelow k.bound) → IfSome (option_map (λ e. e.child) o) (IsLow k)
child_low k None is = tt
child_low k (Some e) is = is.child

parent_low : (k : Attempt) (o : Option Entry) → IfSome o (IsBelow k.bound) → IfSome (parent_told o) (IsLow k)
parent_low k None is = tt
parent_low k (Some e) is = is.parent

module _ (k : Attempt) (h : History) (now : Now k h) (s : ℕ) where
  pub from_low : (t : ℕ) → t < k.bound → All (IsLow k) (tables_from h s t)
  from_low t low = in_low k (ddl_tree h s t) (ddl_low k h now s t low)

  pub under_low : (t : ℕ) → t < k.bound → All (IsLow k) (tables_under h s t)
  under_low t low = top_low k (ddl_tree h s t) (ddl_low k h now s t low)

  pub default_low : (t : ℕ) → IfSome (default_of h s t) (IsLow k)
  default_low t = child_low k (find has_default_bound (partitions_of h s t)) (found_one (IsBelow k.bound) has_default_bound (partitions_of h s t) (children_all (IsBelow k.bound) (entries_present h s) t (present_low k h now s)))

  pub above_low : (t : ℕ) → IfSome (parent_told (above (entries_present h s) t)) (IsLow k)
  above_low t = parent_low k (above (entries_present h s) t) (found_one (IsBelow k.bound) (is_over t) (entries_present h s) (present_low k h now s))
