-- The tables of a tree are made.
use Rattle.std.proofs.Common.{ℕ, zero, suc, ◌<◌, List, [], ◌∷◌, map, length}
use Rattle.std.specs.List.{All}
use Rattle.std.proofs.lemmas.List.Elements.{All-append, All-cons, All-head, All-tail, All-nil}
use Rattle.pg_values.specs.declared.ids.TableNo.{TableNo}
use Rattle.bound_forms.specs.declared.partition_bound.Bound.{Bound}
use Rattle.history.specs.declared.catalogue.Entry.{Entry}
use Rattle.history.specs.declared.catalogue.Table.{Table}
use Rattle.history.specs.declared.catalogue.TableShape.{TableShape}
use Rattle.history.specs.declared.catalogue.TableShape.TheVariants.{Leaf, Level}
use Rattle.history.specs.Catalogue.{tables_made, entries_added}
use Rattle.history.specs.History.{History, catalogue_events}
use Rattle.history.specs.Places.{table_at, Suits, AreCatalogueSound}
use Rattle.history.specs.Presence.{is_present, entries_present}
use Rattle.row_router.specs.declared.node.Node.{Node}
use Rattle.row_router.specs.Trees.{TableTree, trees_of}
use Rattle.row_router.specs.Histories.{ddl_tree, tree_within, grown, node_at, children, bound_of, child_of_entry}
use Rattle.row_router.proofs.Order.{all_children, all_kept}
use Rattle.row_router.proofs.Suited.{all_suit}
use Rattle.part_ddl.specs.Below.{tables_in, all_tables, tables_from}

abbrev pub IsBelow : ℕ → TableNo → Type 0
IsBelow n t = t.number < n

abbrev HasChild : ℕ → Entry → Type 0
HasChild n e = e.child.number < n

kids_below : (n : ℕ) (f : ℕ → TableTree) (es : List Entry) → ((c : ℕ) → c < n → All (IsBelow n) (tables_in (f c))) → All (HasChild n) es → All (IsBelow n) (all_tables (trees_of (map (λ (e : Entry). f (child_of_entry e)) es)))
kids_below n f [] each h = All-nil (IsBelow n)
kids_below n f (e ∷ es) each h =
    All-append (IsBelow n) (tables_in (f (child_of_entry e))) (all_tables (trees_of (map (λ (x : Entry). f (child_of_entry x)) es))) (each (child_of_entry e) (All-head (HasChild n) e es h)) (kids_below n f es each (All-tail (HasChild n) e es h))

grown_below : (n : ℕ) (shape : TableShape) (node : Node) (bounds : List Bound) (kids : List TableTree) → node.table.number < n → All (IsBelow n) (all_tables (trees_of kids)) → All (IsBelow n) (tables_in (grown shape node bounds kids))
grown_below n (Leaf leaf) node bounds kids lt h = All-cons (IsBelow n) node.table [] lt (All-nil (IsBelow n))
grown_below n (Level level) node bounds kids lt h = All-cons (IsBelow n) node.table (all_tables (trees_of kids)) lt h

within_below : (m n : ℕ) (tables : List Table) (entries : List Entry) (named t : ℕ) → t < n → All (HasChild n) entries → All (IsBelow n) (tables_in (tree_within m tables entries named t))
within_below zero n tables entries named t lt h = grown_below n (table_at tables t).shape (node_at tables named t) [] [] lt (All-nil (IsBelow n))
within_below (suc m) n tables entries named t lt h =
    grown_below n (table_at tables t).shape (node_at tables named t) (map bound_of (children entries t)) (map (λ (e : Entry). tree_within m tables entries named (child_of_entry e)) (children entries t)) lt
    (kids_below n (λ c. tree_within m tables entries named c) (children entries t) (λ c less. within_below m n tables entries named c less h) (all_children (HasChild n) entries t h))

pub tables_are_made : (h : History) (s t : ℕ) → AreCatalogueSound h → t < length (tables_made (catalogue_events h)) → All (IsBelow (length (tables_made (catalogue_events h)))) (tables_from h s t)
unfolding Rattle.row_router.specs.Histories.ddl_tree
tables_are_made h s t sound lt =
    let tables = tables_made (catalogue_events h) in
    let suits : All (Suits tables) (entries_present h s) = all_kept (Suits tables) (is_present h s) (entries_added (catalogue_events h)) (all_suit h sound) in
    let children_made : All (HasChild (length tables)) (entries_present h s) = λ k d less. (suits k d less).child in
    within_below 7 (length tables) tables (entries_present h s) t t lt children_made
