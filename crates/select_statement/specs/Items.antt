-- What the names of a statement stand for (the manual, 7.2.1 The FROM Clause).
use Rattle.std.specs.Prelude.{ℕ, ◌+◌, List, [], ◌∷◌, map}
use Rattle.row_router.specs.declared.node.Node.{Node}
use Rattle.row_router.specs.Trees.{TableTree, LeafTable, LevelTable}
use Rattle.expression_binder.specs.Scopes.{Item}
use Rattle.sql_ast.specs.Queries.{Joined}
use Rattle.sql_binder.specs.From.{item_name}
use Rattle.statement_steps.specs.Scopes.{scope_column}

-- what a tree says of its table
abbrev pub node_of : TableTree → Node
node_of (LeafTable node leaf) = node
node_of (LevelTable node level bounds kids) = node

-- the item of that number, under the name that it goes by
abbrev pub item_of : (number : ℕ) → (name : List ℕ) → TableTree → Item
item_of n name tree = record { name = name; number = n; columns = map scope_column (node_of tree).columns }

-- the items of FROM over the trees of their tables, in text order
abbrev pub items_of : (number : ℕ) → List Joined → List TableTree → List Item
items_of n [] trees = []
items_of n (j ∷ js) [] = []
items_of n (j ∷ js) (tree ∷ trees) = item_of n (item_name j) tree ∷ items_of (n + 1) js trees
