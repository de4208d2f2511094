use Rattle.std.proofs.Common.{◌∙◌, ap, sym}
use Rattle.row_router.specs.Trees.{LeafTable}
use Rattle.row_router.specs.Seen.{items_of}
use Rattle.row_router.proofs.Seen.{seen_leaf, seen_level, same_level}
use Rattle.row_router.proofs.tree.Tree.share.Goals as goal

pub returns-in-Leaf : goal.returns-in-Leaf
returns-in-Leaf c = c.leaf.ensures ∙ ap (λ n. LeafTable n c.in-Leaf.leaf) c.in_ok-node.ensures ∙ sym (seen_leaf c.args.self.now c.in-Leaf.leaf c.in-Leaf.is)

pub returns-in_ok-trees-in-Level : goal.returns-in_ok-trees-in-Level
returns-in_ok-trees-in-Level c =
    c.level.ensures
    ∙ same_level _ _ _ _ _ _ (items_of c.in_ok-trees-in-Level.trees) (items_of c.in-Level.trees) c.in_ok-node.ensures c.in_ok-level-in-Level.ensures c.in_ok-bounds-in-Level.ensures c.in_ok-trees-in-Level.ensures
    ∙ sym (seen_level c.args.self.now c.in-Level.level c.in-Level.bounds c.in-Level.trees c.in-Level.is)
