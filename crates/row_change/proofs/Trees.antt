-- The tables of a tree that is read, and those that have its leaves.
use Rattle.std.proofs.Common.{◌≡◌, ℕ, zero, suc, List, [], ◌∷◌, refl, All, map}
use Rattle.std.proofs.lemmas.List.Elements.{All-head, All-tail}
use Rattle.pg_values.specs.declared.ids.LeafId.{LeafId}
use Rattle.pg_values.specs.declared.ids.TableNo.{TableNo}
use Rattle.bound_forms.specs.declared.partition_bound.Bound.{Bound}
use Rattle.history.specs.declared.catalogue.Entry.{Entry}
use Rattle.history.specs.declared.catalogue.Table.{Table}
use Rattle.history.specs.declared.catalogue.TableShape.{TableShape}
use Rattle.history.specs.declared.catalogue.TableShape.TheVariants.{Leaf, Level}
use Rattle.history.specs.Snapshots.{TakenSnapshot}
use Rattle.history.specs.Catalogue.{tables_made}
use Rattle.history.specs.History.{History, catalogue_events}
use Rattle.history.specs.Places.{table_at}
use Rattle.history.specs.Presence.{entries_shown}
use Rattle.row_router.specs.declared.node.Node.{Node}
use Rattle.row_router.specs.Histories.{tree_of, tree_within, grown, node_at, children, bound_of, child_of_entry, table_of}
use Rattle.row_router.specs.Trees.{TableTree, LeafTable, LevelTable, Trees, End, More, trees_of}
use Rattle.row_router.proofs.Order.{all_children}
use Rattle.row_change.specs.Ways.{AllTables, AllTablesOf, root}

-- ---- the tables, and each leaf with its table

abbrev mutual
  pub AtHome : (TableNo → LeafId → Type 0) → TableTree → Type 0
  AtHome Q (LeafTable node leaf) = Q node.table leaf
  AtHome Q (LevelTable node level bounds kids) = AllAtHome Q kids

  pub AllAtHome : (TableNo → LeafId → Type 0) → Trees → Type 0
  AllAtHome Q End = Unit {0}
  AllAtHome Q (More k ks) = AtHome Q k × AllAtHome Q ks

pub record Are (P : TableNo → Type 0) (Q : TableNo → LeafId → Type 0) (tree : TableTree) : Type 0 where
  pub tables : AllTables P tree
  pub home : AtHome Q tree

pub record AreAll (P : TableNo → Type 0) (Q : TableNo → LeafId → Type 0) (kids : Trees) : Type 0 where
  pub tables : AllTablesOf P kids
  pub home : AllAtHome Q kids

-- it is so of the child of an entry
abbrev pub Child : (TableNo → Type 0) → Entry → Type 0
Child P e = P (table_of e.child.number)

kids_are : (P : TableNo → Type 0) (Q : TableNo → LeafId → Type 0) (f : ℕ → TableTree) (es : List Entry) → ((c : ℕ) → P (table_of c) → Are P Q (f c)) → All (Child P) es → AreAll P Q (trees_of (map (λ (e : Entry). f (child_of_entry e)) es))
kids_are P Q f [] each all = record { tables = tt; home = tt }
kids_are P Q f (e ∷ es) each all =
    let first = each e.child.number (All-head (Child P) e es all) in
    let rest = kids_are P Q f es each (All-tail (Child P) e es all) in
    record { tables = (first.tables, rest.tables); home = (first.home, rest.home) }

grown_are : (P : TableNo → Type 0) (Q : TableNo → LeafId → Type 0) (shape : TableShape) (node : Node) (bounds : List Bound) (kids : List TableTree) → P node.table → ((leaf : LeafId) → shape ≡ Leaf leaf → Q node.table leaf) → AreAll P Q (trees_of kids) → Are P Q (grown shape node bounds kids)
grown_are P Q (Leaf leaf) node bounds kids here own below = record { tables = here; home = own leaf refl }
grown_are P Q (Level level) node bounds kids here own below = record { tables = (here, below.tables); home = below.home }

-- its shape is this leaf
abbrev pub IsHome : List Table → TableNo → LeafId → Type 0
IsHome tables t leaf = (table_at tables t.number).shape ≡ Leaf leaf

within_are : (P : TableNo → Type 0) (tables : List Table) (entries : List Entry) (named : ℕ) → All (Child P) entries → (n t : ℕ) → P (table_of t) → Are P (IsHome tables) (tree_within n tables entries named t)
within_are P tables entries named all zero t here =
    grown_are P (IsHome tables) (table_at tables t).shape (node_at tables named t) [] [] here (λ leaf is. is) (record { tables = tt; home = tt })
within_are P tables entries named all (suc n) t here =
    grown_are P (IsHome tables) (table_at tables t).shape (node_at tables named t) (map bound_of (children entries t)) (map (λ e. tree_within n tables entries named (child_of_entry e)) (children entries t)) here (λ leaf is. is)
    (kids_are P (IsHome tables) (λ c. tree_within n tables entries named c) (children entries t) (λ c is. within_are P tables entries named all n c is) (all_children (Child P) entries t all))

-- what holds of the table, and of the child of each entry that is shown, holds of all
pub tree_are : (h : History) (s t : ℕ) (look : TakenSnapshot) (P : TableNo → Type 0) → All (Child P) (entries_shown h s look) → P (table_of t) → Are P (IsHome (tables_made (catalogue_events h))) (tree_of h s t look)
unfolding tree_of
tree_are h s t look P all here = within_are P (tables_made (catalogue_events h)) (entries_shown h s look) t all 7 t here

-- ---- the top

grown_root : (shape : TableShape) (node : Node) (bounds : List Bound) (kids : List TableTree) → root (grown shape node bounds kids) ≡ node.table
grown_root (Leaf leaf) node bounds kids = refl
grown_root (Level level) node bounds kids = refl

pub tree_root : (h : History) (s t : ℕ) (look : TakenSnapshot) → root (tree_of h s t look) ≡ table_of t
unfolding tree_of
tree_root h s t look =
    let tables = tables_made (catalogue_events h) in
    let entries = entries_shown h s look in
    grown_root (table_at tables t).shape (node_at tables t t) (map bound_of (children entries t)) (map (λ e. tree_within 6 tables entries t (child_of_entry e)) (children entries t))
