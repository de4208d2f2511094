-- One step on a way.
use Rattle.std.proofs.Common.{◌≡◌, ℕ, zero, suc, ◌<◌, arith, ap, refl, sym, ◌∙◌, List, [], ◌∷◌, Some, None, map, length, get_or}
use Rattle.pg_values.specs.declared.value.Value.{Value}
use Rattle.bound_forms.specs.declared.partition_bound.Bound.{Bound}
use Rattle.bound_forms.specs.declared.level.Level.{Level}
use Rattle.row_router.specs.declared.node.Node.{Node}
use Rattle.row_router.specs.declared.tree.Tree.{Tree}
use Rattle.row_router.specs.declared.tree.Shape.{Level as ShapeLevel}
use Rattle.row_router.specs.declared.tree.TreeList.{TreeList}
use Rattle.row_router.specs.declared.tree.Shape.TheOpen.{Shape-F}
use Rattle.row_router.specs.declared.tree.Shape.TheFolds.{fold_out-Tree, fold_out-Shape}
use Rattle.row_router.specs.Trees.{TableTree, trees_of, child_of}
use Rattle.row_router.specs.Seen.{seen, seen_step, items_of}
use Rattle.row_router.proofs.Seen.{seen_level}
use Rattle.row_change.specs.Ways.{root, way_below, way_among}

root_step : (s : Shape-F (Node → TableTree) TableTree (List TableTree)) (n : Node) → root (seen_step s n) ≡ n.table
root_step (Shape-F.Leaf leaf) n = refl
root_step (Shape-F.Level level bounds kids) n = refl

-- a tree is of its own table
pub root_seen : (t : Tree) → root (seen t) ≡ t.node.table
root_seen t =
    let a = fold_out-Tree (Node → TableTree) TableTree (List TableTree) seen_step (λ u. u.shape u.node) (λ l. l.trees.value.items) t in
    let b = ap (λ (f : Node → TableTree). f t.node) (fold_out-Shape (Node → TableTree) TableTree (List TableTree) seen_step (λ u. u.shape u.node) (λ l. l.trees.value.items) t.shape) in
    ap root (a ∙ b) ∙ root_step _ t.node

one_among : {T : Type 0} (f : T → TableTree) (row : List Value) (i : ℕ) (ks : List T) (k : T) → i < length ks → k ≡ get_or ks i k → way_among row (Some i) (trees_of (map f ks)) ≡ root (f k) ∷ way_below row (f k)
one_among f row i [] k lt is = absurd (omega arith)
one_among f row zero (x ∷ ks) k lt is = ap (λ y. root (f y) ∷ way_below row (f y)) (sym is)
one_among f row (suc i) (x ∷ ks) k lt is = one_among f row i ks k (omega arith) is

-- to the partition that accepts the row
pub way_step : (t : Tree) (row : List Value) (level : Level) (bounds : List Bound) (kids : TreeList) (i : ℕ) (x : Tree) → t.shape ≡ ShapeLevel level bounds kids → Some i ≡ child_of level bounds row → i < length (items_of kids) → x ≡ get_or (items_of kids) i x → way_below row (seen t) ≡ x.node.table ∷ way_below row (seen x)
way_step t row level bounds kids i x is found lt at =
    ap (way_below row) (seen_level t level bounds kids is)
    ∙ (ap (λ o. way_among row o (trees_of (map seen (items_of kids)))) (sym found)
    ∙ (one_among seen row i (items_of kids) x lt at ∙ ap (λ n. n ∷ way_below row (seen x)) (root_seen x)))

-- or to its end
pub way_end : (t : Tree) (row : List Value) (level : Level) (bounds : List Bound) (kids : TreeList) → t.shape ≡ ShapeLevel level bounds kids → None ≡ child_of level bounds row → way_below row (seen t) ≡ []
way_end t row level bounds kids is found =
    ap (way_below row) (seen_level t level bounds kids is) ∙ ap (λ o. way_among row o (trees_of (map seen (items_of kids)))) (sym found)
