-- Bound conditions as trees, without where they lie in memory.
use Rattle.std.specs.Prelude.{List, [], ◌∷◌}
use Rattle.cond_logic.specs.declared.truth.Truth3.{Truth3}
use Rattle.cond_logic.specs.declared.cond.CompareOp.{CompareOp}
use Rattle.cond_logic.specs.declared.cond.Operand.{Operand}
use Rattle.cond_logic.specs.declared.cond.Cond.{Cond}
use Rattle.cond_logic.specs.declared.cond.Cond.TheOpen.{Cond-F, CondList-F, And, Or, Not, Compare, IsNull, Const}
use Rattle.cond_logic.specs.declared.cond.Cond.TheFolds.{fold-Cond, fold-CondList}
use Rattle.cond_logic.specs.declared.cond.CondList.{CondList}

mutual
  pub data CondTree : Type 0 where
    all_of : CondTrees → CondTree
    any_of : CondTrees → CondTree
    inverted : CondTree → CondTree
    compares : CompareOp → Operand → Operand → CondTree
    null_test : Operand → CondTree
    known : Truth3 → CondTree

  pub data CondTrees : Type 0 where
    no_more : CondTrees
    and_more : CondTree → CondTrees → CondTrees

abbrev pub listed : List CondTree → CondTrees
listed [] = no_more
listed (t ∷ ts) = and_more t (listed ts)

-- one level, with the tree of each condition inside in its place
abbrev pub level : Cond-F CondTree CondTrees → CondTree
level (And list) = all_of list
level (Or list) = any_of list
level (Not c) = inverted c.value
level (Compare op x y) = compares op x y
level (IsNull x) = null_test x
level (Const t) = known t

abbrev pub list_level : CondList-F CondTree CondTrees → CondTrees
list_level l = listed l.conds.items

abbrev pub cond_tree : Cond → CondTree
cond_tree = fold-Cond CondTree CondTrees level list_level

abbrev pub cond_trees : CondList → CondTrees
cond_trees = fold-CondList CondTree CondTrees level list_level
