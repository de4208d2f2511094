-- The tables of a path and of a tree of a history are made, and a row of one table's columns is one of each.
use Rattle.std.proofs.Common.{◌≡◌, ℕ, zero, suc, ◌<◌, arith, refl, sym, subst, Bool, true, List, [], ◌∷◌, Option, Some, None, map, length, inl, inr}
use Rattle.std.specs.List.{All}
use Rattle.std.specs.Prelude.{find}
use Rattle.std.proofs.lemmas.Bool.{cases_Bool}
use Rattle.std.proofs.lemmas.Bool.Decides.{nat_tests}
use Rattle.std.proofs.lemmas.List.Elements.{All-cons, All-head, All-tail, All-nil}
use Rattle.pg_values.specs.declared.value.Value.{Value}
use Rattle.pg_values.specs.declared.ids.TableNo.{TableNo}
use Rattle.bound_forms.specs.declared.partition_bound.Bound.{Bound}
use Rattle.bound_forms.specs.Levels.{IsOf}
use Rattle.history.specs.declared.catalogue.Column.{Column}
use Rattle.history.specs.declared.catalogue.Table.{Table}
use Rattle.history.specs.declared.catalogue.TableShape.{TableShape}
use Rattle.history.specs.declared.catalogue.TableShape.TheVariants.{Leaf, Level}
use Rattle.history.specs.declared.catalogue.Entry.{Entry}
use Rattle.history.specs.Snapshots.{TakenSnapshot}
use Rattle.history.specs.Catalogue.{tables_made, entries_added}
use Rattle.history.specs.History.{History, catalogue_events}
use Rattle.history.specs.Places.{table_at, HasColumnsOf, Suits, AreCatalogueSound}
use Rattle.history.specs.Presence.{is_present, is_shown, entries_present, entries_shown, checks_of}
use Rattle.row_router.specs.declared.node.Node.{Node}
use Rattle.row_router.specs.declared.path_part.PathPart.{PathPart}
use Rattle.row_router.specs.Trees.{TableTree, trees_of, IsRowOf}
use Rattle.row_router.specs.Histories.{tree_within, tree_of, ddl_tree, path_of, node_at, grown, children, bound_of, child_of_entry, is_over, above, parent_in, part_of, upwards, table_of}
use Rattle.row_router.proofs.Order.{all_children, all_kept, under_children}
use Rattle.row_router.proofs.Suited.{all_suit}
use Rattle.row_change.specs.Placing.{IsPartNumbered}
use Rattle.row_change.specs.Ways.{AllTables, AllTablesOf}
use Rattle.row_change.specs.Laws.{IsMade, IsRowIn, PathsAreMade, TreesAreMade, RowsAreOfWays}
use Rattle.row_change.proofs.Ways.{all_below, all_to}

-- ---- all tables of a tree

-- what holds of a table holds of the partitions below it
abbrev GoesDown : (TableNo → Type 0) → List Entry → Type 0
GoesDown P entries = (t : ℕ) → P (table_of t) → All (λ e. P (table_of (child_of_entry e))) (children entries t)

kids_all : (P : TableNo → Type 0) (f : ℕ → TableTree) (es : List Entry) → ((t : ℕ) → P (table_of t) → AllTables P (f t)) → All (λ e. P (table_of (child_of_entry e))) es → AllTablesOf P (trees_of (map (λ (e : Entry). f (child_of_entry e)) es))
kids_all P f [] each all = tt
kids_all P f (e ∷ es) each all =
    (each (child_of_entry e) (All-head (λ (x : Entry). P (table_of (child_of_entry x))) e es all), kids_all P f es each (All-tail (λ (x : Entry). P (table_of (child_of_entry x))) e es all))

grown_all : (P : TableNo → Type 0) (shape : TableShape) (node : Node) (bounds : List Bound) (kids : List TableTree) → P node.table → AllTablesOf P (trees_of kids) → AllTables P (grown shape node bounds kids)
grown_all P (Leaf leaf) node bounds kids here below = here
grown_all P (Level level) node bounds kids here below = (here, below)

within_all : (P : TableNo → Type 0) (tables : List Table) (entries : List Entry) (named n t : ℕ) → GoesDown P entries → P (table_of t) → AllTables P (tree_within n tables entries named t)
within_all P tables entries named zero t down here = grown_all P (table_at tables t).shape (node_at tables named t) [] [] here tt
within_all P tables entries named (suc n) t down here =
    grown_all P (table_at tables t).shape (node_at tables named t) (map bound_of (children entries t)) (map (λ e. tree_within n tables entries named (child_of_entry e)) (children entries t)) here
    (kids_all P (λ c. tree_within n tables entries named c) (children entries t) (λ c is. within_all P tables entries named n c down is) (down t here))

-- ---- all tables of a path

abbrev pub IsHere : (TableNo → Type 0) → Option ℕ → Type 0
IsHere P None = Unit {0}
IsHere P (Some t) = P (table_of t)

-- what holds of a table holds of the one above it
abbrev pub GoesUp : (TableNo → Type 0) → (ℕ → Option Entry) → Type 0
GoesUp P up = (t : ℕ) → P (table_of t) → IsHere P (parent_in (up t))

pub upwards_all : (P : TableNo → Type 0) (Q : PathPart → Type 0) (part : ℕ → PathPart) (up : ℕ → Option Entry) → GoesUp P up → ((t : ℕ) → P (table_of t) → Q (part t)) → (n : ℕ) (o : Option ℕ) → IsHere P o → All Q (upwards n part up o)
upwards_all P Q part up goes each n None here = All-nil Q
upwards_all P Q part up goes each zero (Some t) here = All-nil Q
upwards_all P Q part up goes each (suc n) (Some t) here =
    All-cons Q (part t) (upwards n part up (parent_in (up t))) (each t here) (upwards_all P Q part up goes each n (parent_in (up t)) (goes t here))

-- ---- the entry above a table

-- what holds of all entries, and what is asked, holds of the one that is found
abbrev pub IsFound : (Entry → Type 0) → (Entry → Bool) → Option Entry → Type 0
IsFound P p None = Unit {0}
IsFound P p (Some e) = P e × (p e ≡ true)

pub found_all : (P : Entry → Type 0) (p : Entry → Bool) (es : List Entry) → All P es → IsFound P p (find p es)
found_all P p [] all = tt
found_all P p (e ∷ es) all = elim (cases_Bool (p e)) [
  | inl y ↦ rw y (All-head P e es all, y)
  | inr n ↦ rw n (found_all P p es (All-tail P e es all))
]

pub present_suit : (h : History) (session : ℕ) → AreCatalogueSound h → All (Suits (tables_made (catalogue_events h))) (entries_present h session)
present_suit h session sound = all_kept (Suits (tables_made (catalogue_events h))) (is_present h session) (entries_added (catalogue_events h)) (all_suit h sound)

shown_suit : (h : History) (session : ℕ) (snap : TakenSnapshot) → AreCatalogueSound h → All (Suits (tables_made (catalogue_events h))) (entries_shown h session snap)
shown_suit h session snap sound = all_kept (Suits (tables_made (catalogue_events h))) (is_shown h session snap) (entries_added (catalogue_events h)) (all_suit h sound)

-- ---- rows of the columns of two tables

row_up : (parent child : List Column) (row : List Value) → HasColumnsOf parent child → IsRowOf child row → IsRowOf parent row
row_up [] [] row h r = r
row_up [] (c ∷ child) row h r = absurd h
row_up (p ∷ parent) [] row h r = absurd h
row_up (p ∷ parent) (c ∷ child) [] h r = absurd r
row_up (p ∷ parent) (c ∷ child) (v ∷ row) h r = (subst (λ k. IsOf k v) (sym h.0.1) r.0, row_up parent child row h.1 r.1)

row_down : (parent child : List Column) (row : List Value) → HasColumnsOf parent child → IsRowOf parent row → IsRowOf child row
row_down [] [] row h r = r
row_down [] (c ∷ child) row h r = absurd h
row_down (p ∷ parent) [] row h r = absurd h
row_down (p ∷ parent) (c ∷ child) [] h r = absurd r
row_down (p ∷ parent) (c ∷ child) (v ∷ row) h r = (subst (λ k. IsOf k v) h.0.1 r.0, row_down parent child row h.1 r.1)

-- ---- that a table is made, and that the row is one of its columns

-- an entry takes what holds of its parent to its child, and back
abbrev pub Links : (TableNo → Type 0) → List Table → Type 0
Links P tables = (e : Entry) → Suits tables e → (P e.parent → P e.child) × (P e.child → P e.parent)

made_links : (h : History) → Links (IsMade h) (tables_made (catalogue_events h))
made_links h e s = (λ m. s.child, λ m. s.parent)

pub row_links : (h : History) (row : List Value) → Links (IsRowIn h row) (tables_made (catalogue_events h))
row_links h row e s =
    let tables = tables_made (catalogue_events h) in
    (λ r. (s.child, row_down (table_at tables e.parent.number).columns (table_at tables e.child.number).columns row s.columns r.1), λ r. (s.parent, row_up (table_at tables e.parent.number).columns (table_at tables e.child.number).columns row s.columns r.1))

-- an entry suits its tables, and stands below the table
record Below (tables : List Table) (t : ℕ) (e : Entry) : Type 0 where
  suits : Suits tables e
  under : e.parent.number ≡ t

goes_down : (P : TableNo → Type 0) (tables : List Table) (entries : List Entry) → Links P tables → All (Suits tables) entries → GoesDown P entries
goes_down P tables entries links suit t here k d lt =
    let s = all_children (Suits tables) entries t suit k d lt in
    let under = under_children entries t k d lt in
    (links _ s).0 (subst (λ n. P (table_of n)) (sym under) here)

pub goes_up : (P : TableNo → Type 0) (tables : List Table) (entries : List Entry) → Links P tables → All (Suits tables) entries → GoesUp P (above entries)
goes_up P tables entries links suit t here = up_one P tables (above entries t) t links (found_all (Suits tables) (is_over t) entries suit) here
  where
    up_one : (P : TableNo → Type 0) (tables : List Table) (o : Option Entry) (t : ℕ) → Links P tables → IsFound (Suits tables) (is_over t) o → P (table_of t) → IsHere P (parent_in o)
    up_one P tables None t links found here = tt
    up_one P tables (Some e) t links found here =
        let child : e.child.number ≡ t = grind (arith, nat_tests, found.1) in
        (links e found.0).1 (subst (λ n. P (table_of n)) (sym child) here)

-- ---- the laws

part_made : (h : History) (session n : ℕ) (o : Option ℕ) → AreCatalogueSound h → IsHere (IsMade h) o → (part : ℕ → PathPart) → ((t : ℕ) → (part t).table ≡ table_of t) → All (IsPartNumbered (length (tables_made (catalogue_events h)))) (upwards n part (above (entries_present h session)) o)
part_made h session n o sound here part is =
    upwards_all (IsMade h) (IsPartNumbered (length (tables_made (catalogue_events h)))) part (above (entries_present h session))
    (goes_up (IsMade h) (tables_made (catalogue_events h)) (entries_present h session) (made_links h) (present_suit h session sound))
    (λ t made. subst (λ (x : TableNo). x.number < length (tables_made (catalogue_events h))) (sym (is t)) made) n o here

pub paths_are_made : PathsAreMade
unfolding Rattle.row_router.specs.Histories.path_of
paths_are_made h session t sound made = part_made h session 8 (Some t.number) sound made (part_of (tables_made (catalogue_events h)) (entries_present h session) (checks_of h session)) (λ k. refl)

pub tree_all : (h : History) (session : ℕ) (t : TableNo) (snap : TakenSnapshot) (P : TableNo → Type 0) → Links P (tables_made (catalogue_events h)) → AreCatalogueSound h → P t → AllTables P (tree_of h session t.number snap)
unfolding Rattle.row_router.specs.Histories.tree_of
tree_all h session t snap P links sound here =
    within_all P (tables_made (catalogue_events h)) (entries_shown h session snap) t.number 7 t.number (goes_down P (tables_made (catalogue_events h)) (entries_shown h session snap) links (shown_suit h session snap sound)) here

ddl_all : (h : History) (session : ℕ) (t : TableNo) (P : TableNo → Type 0) → Links P (tables_made (catalogue_events h)) → AreCatalogueSound h → P t → AllTables P (ddl_tree h session t.number)
unfolding Rattle.row_router.specs.Histories.ddl_tree
ddl_all h session t P links sound here =
    within_all P (tables_made (catalogue_events h)) (entries_present h session) t.number 7 t.number (goes_down P (tables_made (catalogue_events h)) (entries_present h session) links (present_suit h session sound)) here

pub trees_are_made : TreesAreMade
trees_are_made h session t snap sound made = (tree_all h session t snap (IsMade h) (made_links h) sound made, ddl_all h session t (IsMade h) (made_links h) sound made)

pub rows_are_of_ways : RowsAreOfWays
rows_are_of_ways h session t snap row sound is =
    let all = tree_all h session t snap (IsRowIn h row) (row_links h row) sound is in
    (λ other. all_below (IsRowIn h row) other (tree_of h session t.number snap) all, λ leaf tables found. all_to (IsRowIn h row) leaf (tree_of h session t.number snap) tables all found)
