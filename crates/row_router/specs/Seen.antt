-- A tree of the code as plain data.
use Rattle.std.specs.Prelude.{List}
use Rattle.row_router.specs.declared.node.Node.{Node}
use Rattle.row_router.specs.declared.tree.Tree.{Tree}
use Rattle.row_router.specs.declared.tree.TreeList.{TreeList}
use Rattle.row_router.specs.declared.tree.Shape.TheViews.{out-TreeList}
use Rattle.row_router.specs.declared.tree.Shape.TheOpen.{Shape-F}
use Rattle.row_router.specs.declared.tree.Shape.TheFolds.{fold-Tree}
use Rattle.row_router.specs.Trees.{TableTree, LeafTable, LevelTable, trees_of}

abbrev pub seen_step : Shape-F (Node → TableTree) TableTree (List TableTree) → Node → TableTree
seen_step (Shape-F.Leaf leaf) node = LeafTable node leaf
seen_step (Shape-F.Level level bounds kids) node = LevelTable node level bounds (trees_of kids)

abbrev pub seen : Tree → TableTree
seen = fold-Tree (Node → TableTree) TableTree (List TableTree) seen_step (λ t. t.shape t.node) (λ l. l.trees.value.items)

-- the trees of a list
abbrev pub items_of : TreeList → List Tree
items_of l = (out-TreeList l).trees.value.items
