-- The numbers of the parameters in a statement, in the order of its text (4.2.2 Positional Parameters).
use Rattle.std.specs.Prelude.{ℕ, max, List, [], ◌∷◌, ◌++◌, Option, Some, None}
use Rattle.std.specs.List.{flat_map}
use Rattle.sql_ast.specs.declared.leaf.Leaf.{Leaf}
use Rattle.sql_ast.specs.declared.leaf.Leaf.TheVariants.{Parameter}
use Rattle.sql_ast.specs.Expressions.{Tree, Trees, no_more, and_more, leaf, call, call_of_all, negated, binary, in_list, between, is_null, inverted, all_of, any_of}
use Rattle.sql_ast.specs.Queries.{Item, all_columns, columns_of, one_column, Joined, Key, Setting, SelectTree, selected, RowTree, selects, inserts, updates, deletes}

-- ---- in an expression

abbrev pub leaf_numbers : Leaf → List ℕ
leaf_numbers (Parameter n) = n ∷ []
leaf_numbers _ = []

abbrev mutual
  pub numbers : Tree → List ℕ
  numbers (leaf l) = leaf_numbers l
  numbers (call f ts) = all_numbers ts
  numbers (call_of_all f) = []
  numbers (negated e) = numbers e
  numbers (binary o x y) = numbers x ++ numbers y
  numbers (in_list b x ts) = numbers x ++ all_numbers ts
  numbers (between b x y z) = numbers x ++ (numbers y ++ numbers z)
  numbers (is_null b x) = numbers x
  numbers (inverted e) = numbers e
  numbers (all_of ts) = all_numbers ts
  numbers (any_of ts) = all_numbers ts

  pub all_numbers : Trees → List ℕ
  all_numbers no_more = []
  all_numbers (and_more t ts) = numbers t ++ all_numbers ts

abbrev pub maybe_numbers : Option Tree → List ℕ
maybe_numbers None = []
maybe_numbers (Some t) = numbers t

-- ---- in a statement

abbrev pub item_numbers : Item → List ℕ
item_numbers all_columns = []
item_numbers (columns_of t) = []
item_numbers (one_column o) = numbers o.0

abbrev pub joined_numbers : Joined → List ℕ
joined_numbers j = maybe_numbers j.1

abbrev pub key_numbers : Key → List ℕ
key_numbers k = numbers k.0

abbrev pub setting_numbers : Setting → List ℕ
setting_numbers w = numbers w.1

abbrev pub select_numbers : SelectTree → List ℕ
select_numbers (selected ls from cond keys limit offset) =
    flat_map item_numbers ls
    ++ (flat_map joined_numbers from
    ++ (maybe_numbers cond
    ++ (flat_map key_numbers keys
    ++ (maybe_numbers limit ++ maybe_numbers offset))))

abbrev pub statement_numbers : RowTree → List ℕ
statement_numbers (selects s) = select_numbers s
statement_numbers (inserts t names rows) = flat_map all_numbers rows
statement_numbers (updates t ws cond) = flat_map setting_numbers ws ++ maybe_numbers cond
statement_numbers (deletes t cond) = maybe_numbers cond

-- ---- the greatest of them, 0 where there is none

abbrev pub greatest_of : List ℕ → ℕ
greatest_of [] = 0
greatest_of (n ∷ ns) = max n (greatest_of ns)

abbrev pub greatest : RowTree → ℕ
greatest s = greatest_of (statement_numbers s)
