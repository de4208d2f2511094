-- The conjuncts of a condition: the parts that all have to hold (9.1 Logical Operators).
use Rattle.std.specs.Prelude.{List, [], ◌∷◌, ◌++◌}
use Rattle.cond_logic.specs.Trees.{CondTree, CondTrees, no_more, and_more, all_of, any_of, inverted, compares, null_test, known}

abbrev mutual
  -- an AND is flattened
  pub conjuncts : CondTree → List CondTree
  conjuncts (all_of ts) = all_conjuncts ts
  conjuncts (any_of ts) = any_of ts ∷ []
  conjuncts (inverted t) = inverted t ∷ []
  conjuncts (compares op x y) = compares op x y ∷ []
  conjuncts (null_test x) = null_test x ∷ []
  conjuncts (known t) = known t ∷ []

  pub all_conjuncts : CondTrees → List CondTree
  all_conjuncts no_more = []
  all_conjuncts (and_more t ts) = conjuncts t ++ all_conjuncts ts
