-- What holds of the entries that a tree is made of holds of its tables, and of its leaves.
use Rattle.std.proofs.Common.{◌≡◌, ℕ, zero, suc, List, [], ◌∷◌, refl, All, map}
use Rattle.std.proofs.lemmas.List.Elements.{All-nil, All-cons, All-head, All-tail, All-append}
use Rattle.pg_values.specs.declared.ids.LeafId.{LeafId}
use Rattle.pg_values.specs.declared.ids.TableNo.{TableNo}
use Rattle.history.specs.declared.catalogue.Entry.{Entry}
use Rattle.history.specs.declared.catalogue.Table.{Table}
use Rattle.history.specs.declared.catalogue.TableShape.{TableShape}
use Rattle.history.specs.declared.catalogue.TableShape.TheVariants.{Leaf, Level}
use Rattle.history.specs.Catalogue.{CatalogueEvents, tables_made}
use Rattle.history.specs.Places.{table_at}
use Rattle.row_router.specs.declared.node.Node.{Node}
use Rattle.row_router.specs.Trees.{TableTree, trees_of, leaves, all_leaves}
use Rattle.row_router.specs.Histories.{table_of, node_at, grown, tree_within, children, bound_of, child_of_entry}
use Rattle.row_router.proofs.Order.{all_children}
use Rattle.soundness.specs.Worlds.{IsMade, HasLeaf}
use Rattle.soundness.proofs.Presence.{all_more}
use Rattle.legal_statements.specs.Below.{tables_in, all_tables}
use Rattle.statement_steps.specs.Below.{below}

-- the trees of the entries of a level
abbrev kids : (ℕ → TableTree) → List Entry → List TableTree
kids f es = map (λ (e : Entry). f (child_of_entry e)) es

-- ---- tables

abbrev TablesOf : (TableNo → Type 0) → (ℕ → TableTree) → Entry → Type 0
TablesOf P f e = All P (tables_in (f e.child.number))

kids_tables : (P : TableNo → Type 0) (f : ℕ → TableTree) (es : List Entry) → All (TablesOf P f) es → All P (all_tables (trees_of (kids f es)))
kids_tables P f [] all = All-nil P
kids_tables P f (e ∷ es) all = All-append P (tables_in (f e.child.number)) (all_tables (trees_of (kids f es))) (All-head (TablesOf P f) e es all) (kids_tables P f es (All-tail (TablesOf P f) e es all))

below_grown : (P : TableNo → Type 0) (f : ℕ → TableTree) (shape : TableShape) (node : Node) (es : List Entry) → All (TablesOf P f) es → All P (below (grown shape node (map bound_of es) (kids f es)))
below_grown P f (Leaf leaf) node es all = All-nil P
below_grown P f (Level level) node es all = kids_tables P f es all

tables_grown : (P : TableNo → Type 0) (f : ℕ → TableTree) (shape : TableShape) (node : Node) (es : List Entry) → P node.table → All (TablesOf P f) es → All P (tables_in (grown shape node (map bound_of es) (kids f es)))
tables_grown P f (Leaf leaf) node es own all = All-cons P node.table [] own (All-nil P)
tables_grown P f (Level level) node es own all = All-cons P node.table (all_tables (trees_of (kids f es))) own (kids_tables P f es all)

abbrev ChildIs : (TableNo → Type 0) → Entry → Type 0
ChildIs P e = P (table_of e.child.number)

tables_within : (P : TableNo → Type 0) (tables : List Table) (entries : List Entry) (named : ℕ) → All (ChildIs P) entries → (n t : ℕ) → P (table_of t) → All P (tables_in (tree_within n tables entries named t))
tables_within P tables entries named all zero t own = tables_grown P (λ c. tree_within zero tables entries named c) (table_at tables t).shape (node_at tables named t) [] own (All-nil (TablesOf P (λ c. tree_within zero tables entries named c)))
tables_within P tables entries named all (suc n) t own =
    tables_grown P (λ c. tree_within n tables entries named c) (table_at tables t).shape (node_at tables named t) (children entries t) own
    (all_more (ChildIs P) (TablesOf P (λ c. tree_within n tables entries named c)) (children entries t) (λ e is. tables_within P tables entries named all n e.child.number is) (all_children (ChildIs P) entries t all))

pub below_within : (P : TableNo → Type 0) (tables : List Table) (entries : List Entry) (named : ℕ) → All (ChildIs P) entries → (n t : ℕ) → All P (below (tree_within n tables entries named t))
below_within P tables entries named all zero t = below_grown P (λ c. tree_within zero tables entries named c) (table_at tables t).shape (node_at tables named t) [] (All-nil (TablesOf P (λ c. tree_within zero tables entries named c)))
below_within P tables entries named all (suc n) t =
    below_grown P (λ c. tree_within n tables entries named c) (table_at tables t).shape (node_at tables named t) (children entries t)
    (all_more (ChildIs P) (TablesOf P (λ c. tree_within n tables entries named c)) (children entries t) (λ e is. tables_within P tables entries named all n e.child.number is) (all_children (ChildIs P) entries t all))

-- ---- leaves

abbrev LeavesOf : (LeafId → Type 0) → (ℕ → TableTree) → Entry → Type 0
LeavesOf P f e = All P (leaves (f e.child.number))

kids_leaves : (P : LeafId → Type 0) (f : ℕ → TableTree) (es : List Entry) → All (LeavesOf P f) es → All P (all_leaves (trees_of (kids f es)))
kids_leaves P f [] all = All-nil P
kids_leaves P f (e ∷ es) all = All-append P (leaves (f e.child.number)) (all_leaves (trees_of (kids f es))) (All-head (LeavesOf P f) e es all) (kids_leaves P f es (All-tail (LeavesOf P f) e es all))

leaves_grown : (P : LeafId → Type 0) (f : ℕ → TableTree) (shape : TableShape) (node : Node) (es : List Entry) → ((leaf : LeafId) → shape ≡ Leaf leaf → P leaf) → All (LeavesOf P f) es → All P (leaves (grown shape node (map bound_of es) (kids f es)))
leaves_grown P f (Leaf leaf) node es own all = All-cons P leaf [] (own leaf refl) (All-nil P)
leaves_grown P f (Level level) node es own all = kids_leaves P f es all

abbrev ChildIsMade : CatalogueEvents → Entry → Type 0
ChildIsMade cats e = IsMade cats e.child.number

pub leaves_within : (P : LeafId → Type 0) (cats : CatalogueEvents) (entries : List Entry) (named : ℕ) → ((x : ℕ) (leaf : LeafId) → HasLeaf cats x leaf → P leaf) → All (ChildIsMade cats) entries → (n t : ℕ) → IsMade cats t
    → All P (leaves (tree_within n (tables_made cats) entries named t))
leaves_within P cats entries named home all zero t made =
    leaves_grown P (λ c. tree_within zero (tables_made cats) entries named c) (table_at (tables_made cats) t).shape (node_at (tables_made cats) named t) [] (λ leaf is. home t leaf (made, is)) (All-nil (LeavesOf P (λ c. tree_within zero (tables_made cats) entries named c)))
leaves_within P cats entries named home all (suc n) t made =
    leaves_grown P (λ c. tree_within n (tables_made cats) entries named c) (table_at (tables_made cats) t).shape (node_at (tables_made cats) named t) (children entries t) (λ leaf is. home t leaf (made, is))
    (all_more (ChildIsMade cats) (LeavesOf P (λ c. tree_within n (tables_made cats) entries named c)) (children entries t) (λ e is. leaves_within P cats entries named home all n e.child.number is) (all_children (ChildIsMade cats) entries t all))
