-- What a tree says of its table.
use Rattle.std.proofs.Common.{◌≡◌, ap, refl, ◌∙◌, List}
use Rattle.row_router.specs.declared.node.Node.{Node}
use Rattle.row_router.specs.declared.tree.Tree.{Tree}
use Rattle.row_router.specs.declared.tree.Shape.TheOpen.{Shape-F}
use Rattle.row_router.specs.declared.tree.Shape.TheFolds.{fold_out-Tree, fold_out-Shape}
use Rattle.row_router.specs.Trees.{TableTree}
use Rattle.row_router.specs.Seen.{seen, seen_step}
use Rattle.select_statement.specs.Items.{node_of}

node_step : (s : Shape-F (Node → TableTree) TableTree (List TableTree)) (n : Node) → node_of (seen_step s n) ≡ n
node_step (Shape-F.Leaf leaf) n = refl
node_step (Shape-F.Level level bounds kids) n = refl

pub node_seen : (t : Tree) → node_of (seen t) ≡ t.node
node_seen t =
    let a = fold_out-Tree (Node → TableTree) TableTree (List TableTree) seen_step (λ u. u.shape u.node) (λ l. l.trees.value.items) t in
    let b = ap (λ (f : Node → TableTree). f t.node) (fold_out-Shape (Node → TableTree) TableTree (List TableTree) seen_step (λ u. u.shape u.node) (λ l. l.trees.value.items) t.shape) in
    ap node_of (a ∙ b) ∙ node_step _ t.node
