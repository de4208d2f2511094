-- What stands at the top of a tree is what the history tells of the table and its partitions.
use Rattle.std.proofs.Common.{◌≡◌, ℕ, zero, suc, ap, refl, sym, subst, ◌∙◌, List, [], ◌∷◌, map, length}
use Rattle.std.specs.List.{All}
use Rattle.std.proofs.lemmas.List.{length-map}
use Rattle.pg_values.specs.declared.ids.TableNo.{TableNo}
use Rattle.pg_values.specs.declared.ids.LeafId.{LeafId}
use Rattle.bound_forms.specs.declared.level.Level.{Level as OneLevel}
use Rattle.bound_forms.specs.declared.partition_bound.Bound.{Bound}
use Rattle.bound_forms.specs.Levels.{IsOfLevel}
use Rattle.history.specs.declared.catalogue.Table.{Table}
use Rattle.history.specs.declared.catalogue.Entry.{Entry}
use Rattle.history.specs.declared.catalogue.TableShape.{TableShape}
use Rattle.history.specs.declared.catalogue.TableShape.TheVariants.{Leaf, Level}
use Rattle.history.specs.Catalogue.{tables_made}
use Rattle.history.specs.History.{History, catalogue_events}
use Rattle.history.specs.Places.{table_at, AreCatalogueSound}
use Rattle.history.specs.Presence.{entries_present}
use Rattle.row_router.specs.declared.node.Node.{Node}
use Rattle.row_router.specs.declared.tree.Tree.{Tree}
use Rattle.row_router.specs.declared.tree.Shape.{Shape, Leaf as ShapeLeaf, Level as ShapeLevel}
use Rattle.row_router.specs.declared.tree.Shape.TheOpen.{Shape-F}
use Rattle.row_router.specs.declared.tree.Shape.TheFolds.{fold-Shape, fold_out-Tree, fold_out-Shape}
use Rattle.row_router.specs.declared.tree.TreeList.{TreeList}
use Rattle.row_router.specs.Trees.{TableTree, LeafTable, LevelTable, Trees, trees_of, IsSound}
use Rattle.row_router.specs.Seen.{seen, seen_step, items_of}
use Rattle.row_router.specs.Histories.{ddl_tree, tree_within, grown, node_at, children, bound_of, child_of_entry}
use Rattle.row_router.specs.Siblings.{AreSiblings}
use Rattle.row_router.proofs.Seen.{seen_level}
use Rattle.row_router.proofs.Sound.{ddl_tree_sound}
use Rattle.part_catalog.specs.Found.{made_at}
use Rattle.part_ddl.specs.Placing.{partitions_of, bounds_below}

-- ---- what a tree says of its top

pub seen_leaf : (t : Tree) (leaf : LeafId) → t.shape ≡ ShapeLeaf leaf → seen t ≡ LeafTable t.node leaf
unfolding Rattle.row_router.specs.declared.tree.Shape.TheViews.out-Shape denote.Hole.Carrier.out
seen_leaf t leaf is =
    let F : Shape → Node → TableTree = fold-Shape (Node → TableTree) TableTree (List TableTree) seen_step (λ u. u.shape u.node) (λ l. l.trees.value.items) in
    let a : seen t ≡ F t.shape t.node = fold_out-Tree (Node → TableTree) TableTree (List TableTree) seen_step (λ u. u.shape u.node) (λ l. l.trees.value.items) t in
    let b = ap (λ (f : Node → TableTree). f t.node) (fold_out-Shape (Node → TableTree) TableTree (List TableTree) seen_step (λ u. u.shape u.node) (λ l. l.trees.value.items) (ShapeLeaf leaf)) in
    a ∙ ap (λ (s : Shape). F s t.node) is ∙ b

abbrev pub node_of : TableTree → Node
node_of (LeafTable node leaf) = node
node_of (LevelTable node level bounds kids) = node

step_node : (s : Shape-F (Node → TableTree) TableTree (List TableTree)) (node : Node) → node_of (seen_step s node) ≡ node
step_node (Shape-F.Leaf leaf) node = refl
step_node (Shape-F.Level level bounds kids) node = refl

pub node_seen : (t : Tree) → node_of (seen t) ≡ t.node
node_seen t =
    let a = fold_out-Tree (Node → TableTree) TableTree (List TableTree) seen_step (λ u. u.shape u.node) (λ l. l.trees.value.items) t in
    let b = ap (λ (f : Node → TableTree). f t.node) (fold_out-Shape (Node → TableTree) TableTree (List TableTree) seen_step (λ u. u.shape u.node) (λ l. l.trees.value.items) t.shape) in
    ap node_of (a ∙ b) ∙ step_node _ t.node

grown_node : (shape : TableShape) (node : Node) (bounds : List Bound) (kids : List TableTree) → node_of (grown shape node bounds kids) ≡ node
grown_node (Leaf leaf) node bounds kids = refl
grown_node (Level level) node bounds kids = refl

-- ---- the partitions of a level

same_trees : (xs ys : List TableTree) → trees_of xs ≡ trees_of ys → xs ≡ ys
same_trees [] [] e = refl
same_trees [] (y ∷ ys) e = absurd (cc)
same_trees (x ∷ xs) [] e = absurd (cc)
same_trees (x ∷ xs) (y ∷ ys) e =
    let first : x ≡ y = cc in
    let rest : trees_of xs ≡ trees_of ys = cc in
    ap (λ t. t ∷ xs) first ∙ ap (λ ts. y ∷ ts) (same_trees xs ys rest)

abbrev pub tree_table : Tree → TableNo
tree_table t = t.node.table

abbrev pub entry_child : Entry → TableNo
entry_child e = e.child

-- what is told of the top of a table's tree
pub record IsTold (h : History) (s p : ℕ) (level : OneLevel) (bs : List Bound) (trees : List Tree) : Type 0 where
  pub shape : (made_at h p).shape ≡ Level level
  pub bounds : bs ≡ bounds_below h s p
  pub tables : map tree_table trees ≡ map entry_child (partitions_of h s p)
  pub paired : length bs ≡ length trees

each_node : {X : Type 0} (g : Node → X) (f : ℕ → TableTree) (node : ℕ → Node) (ts : List Tree) (es : List Entry) → ((k : ℕ) → node_of (f k) ≡ node k) → map seen ts ≡ map (λ (e : Entry). f (child_of_entry e)) es → map (λ (t : Tree). g t.node) ts ≡ map (λ (e : Entry). g (node (child_of_entry e))) es
each_node g f node [] [] each e = refl
each_node g f node [] (x ∷ es) each e = absurd (cc)
each_node g f node (t ∷ ts) [] each e = absurd (cc)
each_node g f node (t ∷ ts) (x ∷ es) each e =
    let first : seen t ≡ f (child_of_entry x) = cc in
    let rest : map seen ts ≡ map (λ (y : Entry). f (child_of_entry y)) es = cc in
    let here : t.node ≡ node (child_of_entry x) = sym (node_seen t) ∙ ap node_of first ∙ each (child_of_entry x) in
    ap (λ n. g n ∷ map (λ (u : Tree). g u.node) ts) here ∙ ap (λ ns. g (node (child_of_entry x)) ∷ ns) (each_node g f node ts es each rest)

within_node : (n : ℕ) (tables : List Table) (entries : List Entry) (named t : ℕ) → node_of (tree_within n tables entries named t) ≡ node_at tables named t
within_node zero tables entries named t = grown_node (table_at tables t).shape (node_at tables named t) [] []
within_node (suc n) tables entries named t =
    grown_node (table_at tables t).shape (node_at tables named t) (map bound_of (children entries t)) (map (λ (e : Entry). tree_within n tables entries named (child_of_entry e)) (children entries t))

-- a level that was grown
record IsGrown (shape : TableShape) (level : OneLevel) (bs bounds : List Bound) (ks : Trees) (kids : List TableTree) : Type 0 where
  shape_is : shape ≡ Level level
  bounds_are : bs ≡ bounds
  kids_are : ks ≡ trees_of kids

level_grown : (shape : TableShape) (node n : Node) (level : OneLevel) (bs bounds : List Bound) (ks : Trees) (kids : List TableTree) → LevelTable n level bs ks ≡ grown shape node bounds kids → IsGrown shape level bs bounds ks kids
level_grown (Leaf leaf) node n level bs bounds ks kids e = absurd (cc)
level_grown (Level own) node n level bs bounds ks kids e = record { shape_is = cc; bounds_are = cc; kids_are = cc }

pub told : (h : History) (s p : ℕ) (t : Tree) (level : OneLevel) (bounds : List Bound) (kids : TreeList) → t.shape ≡ ShapeLevel level bounds kids → seen t ≡ ddl_tree h s p → IsTold h s p level bounds (items_of kids)
unfolding Rattle.row_router.specs.Histories.ddl_tree
told h s p t level bounds kids is tree =
    let tables = tables_made (catalogue_events h) in
    let es = children (entries_present h s) p in
    let f : ℕ → TableTree = λ c. tree_within 6 tables (entries_present h s) p c in
    let e : LevelTable t.node level bounds (trees_of (map seen (items_of kids))) ≡ grown (table_at tables p).shape (node_at tables p p) (map bound_of es) (map (λ (x : Entry). f (child_of_entry x)) es) = sym (seen_level t level bounds kids is) ∙ tree in
    let g = level_grown (table_at tables p).shape (node_at tables p p) t.node level bounds (map bound_of es) (trees_of (map seen (items_of kids))) (map (λ (x : Entry). f (child_of_entry x)) es) e in
    let same = same_trees (map seen (items_of kids)) (map (λ (x : Entry). f (child_of_entry x)) es) g.kids_are in
    let nodes = λ (k : ℕ). within_node 6 tables (entries_present h s) p k in
    record {
      shape = g.shape_is;
      bounds = g.bounds_are;
      tables = each_node (λ n. n.table) f (node_at tables p) (items_of kids) es nodes same;
      paired = ap length g.bounds_are ∙ length-map es bound_of ∙ sym (length-map es (λ (x : Entry). f (child_of_entry x))) ∙ sym (ap length same) ∙ length-map (items_of kids) seen;
    }

leaf_grown : (shape : TableShape) (node n : Node) (leaf : LeafId) (bounds : List Bound) (kids : List TableTree) → LeafTable n leaf ≡ grown shape node bounds kids → shape ≡ Leaf leaf
leaf_grown (Leaf own) node n leaf bounds kids e = cc
leaf_grown (Level level) node n leaf bounds kids e = absurd (cc)

pub leaf_told : (h : History) (s p : ℕ) (t : Tree) (leaf : LeafId) → t.shape ≡ ShapeLeaf leaf → seen t ≡ ddl_tree h s p → (made_at h p).shape ≡ Leaf leaf
unfolding Rattle.row_router.specs.Histories.ddl_tree
leaf_told h s p t leaf is tree =
    let tables = tables_made (catalogue_events h) in
    let es = children (entries_present h s) p in
    leaf_grown (table_at tables p).shape (node_at tables p p) t.node leaf (map bound_of es) (map (λ (x : Entry). tree_within 6 tables (entries_present h s) p (child_of_entry x)) es) (sym (seen_leaf t leaf is) ∙ tree)

pub all_of_level : (h : History) (s p : ℕ) (t : Tree) (level : OneLevel) (bounds : List Bound) (kids : TreeList) → AreCatalogueSound h → AreSiblings (entries_present h s) → t.shape ≡ ShapeLevel level bounds kids → seen t ≡ ddl_tree h s p → All (IsOfLevel level) bounds
all_of_level h s p t level bounds kids sound siblings is tree =
    let columns = (table_at (tables_made (catalogue_events h)) p).columns in
    let whole : IsSound columns (LevelTable t.node level bounds (trees_of (map seen (items_of kids)))) = subst (IsSound columns) (sym tree ∙ seen_level t level bounds kids is) (ddl_tree_sound h s p sound siblings) in
    whole.1
