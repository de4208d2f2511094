-- The columns of a condition.
use Rattle.std.specs.Prelude.{Bool, ◌==◌, ◌&&◌, List, [], ◌∷◌, ◌++◌, if◌then◌else◌}
use Rattle.std.specs.List.{list_any}
use Rattle.cond_logic.specs.declared.cond.ColumnId.{ColumnId}
use Rattle.cond_logic.specs.declared.cond.Operand.{Operand}
use Rattle.cond_logic.specs.declared.cond.Operand.TheVariants.{Column, Lit, Param}
use Rattle.cond_logic.specs.Trees.{CondTree, CondTrees, no_more, and_more, all_of, any_of, inverted, compares, null_test, known}

abbrev pub operand_columns : Operand → List ColumnId
operand_columns (Column c) = c ∷ []
operand_columns (Lit v) = []
operand_columns (Param i) = []

abbrev mutual
  -- in text order, as often as they stand there
  pub columns_of : CondTree → List ColumnId
  columns_of (all_of ts) = all_columns ts
  columns_of (any_of ts) = all_columns ts
  columns_of (inverted t) = columns_of t
  columns_of (compares op x y) = operand_columns x ++ operand_columns y
  columns_of (null_test x) = operand_columns x
  columns_of (known t) = []

  pub all_columns : CondTrees → List ColumnId
  all_columns no_more = []
  all_columns (and_more t ts) = columns_of t ++ all_columns ts

abbrev pub is_column : ColumnId → ColumnId → Bool
is_column a b = (a.item == b.item) && (a.position == b.position)

-- the list with another column behind it, if that is not in it yet
abbrev pub once_more : List ColumnId → ColumnId → List ColumnId
once_more cs c = if list_any (is_column c) cs then cs else cs ++ c ∷ []

-- the list with each column of another one that is not in it yet
abbrev pub with_new : List ColumnId → List ColumnId → List ColumnId
with_new found [] = found
with_new found (c ∷ cs) = with_new (once_more found c) cs
