-- What a tree is seen as.
use Rattle.std.proofs.Common.{◌≡◌, ap, ◌∙◌, List, map}
use Rattle.pg_values.specs.declared.ids.LeafId.{LeafId}
use Rattle.bound_forms.specs.declared.partition_bound.Bound.{Bound}
use Rattle.bound_forms.specs.declared.level.Level.{Level}
use Rattle.row_router.specs.declared.node.Node.{Node}
use Rattle.row_router.specs.declared.tree.Tree.{Tree}
use Rattle.row_router.specs.declared.tree.Shape.{Shape, Leaf as ShapeLeaf, Level as ShapeLevel}
use Rattle.row_router.specs.declared.tree.TreeList.{TreeList}
use Rattle.row_router.specs.declared.tree.Shape.TheFolds.{fold-Shape, fold_out-Tree, fold_out-Shape, fold_out-TreeList}
use Rattle.row_router.specs.Trees.{TableTree, LeafTable, LevelTable, trees_of}
use Rattle.row_router.specs.Seen.{seen, seen_step, items_of}

pub seen_level : (t : Tree) (level : Level) (bounds : List Bound) (kids : TreeList) → t.shape ≡ ShapeLevel level bounds kids → seen t ≡ LevelTable t.node level bounds (trees_of (map seen (items_of kids)))
unfolding Rattle.row_router.specs.declared.tree.Shape.TheViews.out-Shape denote.Hole.Carrier.out
seen_level t level bounds kids is =
    let F : Shape → Node → TableTree = fold-Shape (Node → TableTree) TableTree (List TableTree) seen_step (λ u. u.shape u.node) (λ l. l.trees.value.items) in
    let a : seen t ≡ F t.shape t.node = fold_out-Tree (Node → TableTree) TableTree (List TableTree) seen_step (λ u. u.shape u.node) (λ l. l.trees.value.items) t in
    let b = ap (λ (f : Node → TableTree). f t.node) (fold_out-Shape (Node → TableTree) TableTree (List TableTree) seen_step (λ u. u.shape u.node) (λ l. l.trees.value.items) (ShapeLevel level bounds kids)) in
    let k = fold_out-TreeList (Node → TableTree) TableTree (List TableTree) seen_step (λ u. u.shape u.node) (λ l. l.trees.value.items) kids in
    a ∙ ap (λ (s : Shape). F s t.node) is ∙ b ∙ ap (λ ks. LevelTable t.node level bounds (trees_of ks)) k

pub seen_leaf : (t : Tree) (leaf : LeafId) → t.shape ≡ ShapeLeaf leaf → seen t ≡ LeafTable t.node leaf
unfolding Rattle.row_router.specs.declared.tree.Shape.TheViews.out-Shape denote.Hole.Carrier.out
seen_leaf t leaf is =
    let F : Shape → Node → TableTree = fold-Shape (Node → TableTree) TableTree (List TableTree) seen_step (λ u. u.shape u.node) (λ l. l.trees.value.items) in
    let a : seen t ≡ F t.shape t.node = fold_out-Tree (Node → TableTree) TableTree (List TableTree) seen_step (λ u. u.shape u.node) (λ l. l.trees.value.items) t in
    let b = ap (λ (f : Node → TableTree). f t.node) (fold_out-Shape (Node → TableTree) TableTree (List TableTree) seen_step (λ u. u.shape u.node) (λ l. l.trees.value.items) (ShapeLeaf leaf)) in
    a ∙ ap (λ (s : Shape). F s t.node) is ∙ b

-- a level of equal parts
pub same_level : (n m : Node) (l k : Level) (b c : List Bound) (xs ys : List Tree) → n ≡ m → l ≡ k → b ≡ c → xs ≡ ys → LevelTable n l b (trees_of (map seen xs)) ≡ LevelTable m k c (trees_of (map seen ys))
same_level n m l k b c xs ys node level bounds trees =
    ap (λ x. LevelTable x l b (trees_of (map seen xs))) node
    ∙ ap (λ x. LevelTable m x b (trees_of (map seen xs))) level
    ∙ ap (λ x. LevelTable m k x (trees_of (map seen xs))) bounds
    ∙ ap (λ x. LevelTable m k c (trees_of (map seen x))) trees
