-- Expressions as trees, without where they lie in memory (4.2 Value Expressions).
use Rattle.std.specs.Prelude.{ℕ, Bool, List, [], ◌∷◌}
use Rattle.sql_ast.specs.declared.expr.Expr.{Expr}
use Rattle.sql_ast.specs.declared.expr.Expr.TheOpen.{Expr-F, ExprList-F, Leaf, Call, CallOfAll, Negated, Binary, In, Between, IsNull, Not, And, Or}
use Rattle.sql_ast.specs.declared.expr.Expr.TheFolds.{fold-Expr, fold-ExprList}
use Rattle.sql_ast.specs.declared.expr.ExprList.{ExprList}
use Rattle.sql_ast.specs.declared.leaf.Leaf.{Leaf as OneLeaf}
use Rattle.sql_ast.specs.declared.leaf.Operator.{Operator}

-- an expression, and expressions in order
mutual
  pub data Tree : Type 0 where
    leaf : OneLeaf → Tree
    call : List ℕ → Trees → Tree
    call_of_all : List ℕ → Tree
    negated : Tree → Tree
    binary : Operator → Tree → Tree → Tree
    in_list : Bool → Tree → Trees → Tree
    between : Bool → Tree → Tree → Tree → Tree
    is_null : Bool → Tree → Tree
    inverted : Tree → Tree
    all_of : Trees → Tree
    any_of : Trees → Tree

  pub data Trees : Type 0 where
    no_more : Trees
    and_more : Tree → Trees → Trees

-- trees in order
abbrev pub listed : List Tree → Trees
listed [] = no_more
listed (t ∷ ts) = and_more t (listed ts)

-- one layer, with the tree of each child in its place
abbrev pub layer : Expr-F Tree Trees → Tree
layer (Leaf l) = leaf l
layer (Call name list) = call name list
layer (CallOfAll name) = call_of_all name
layer (Negated e) = negated e.value
layer (Binary op l r) = binary op l.value r.value
layer (In is_not e list) = in_list is_not e.value list
layer (Between is_not e from to) = between is_not e.value from.value to.value
layer (IsNull is_not e) = is_null is_not e.value
layer (Not e) = inverted e.value
layer (And list) = all_of list
layer (Or list) = any_of list

abbrev pub list_layer : ExprList-F Tree Trees → Trees
list_layer l = listed l.items.items

-- the tree of an expression
abbrev pub tree : Expr → Tree
tree = fold-Expr Tree Trees layer list_layer

-- the trees of a list of expressions
abbrev pub trees : ExprList → Trees
trees = fold-ExprList Tree Trees layer list_layer
