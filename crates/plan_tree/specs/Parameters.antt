-- Whether a parameter stands in a condition (4.1.2 Positional Parameters).
use Rattle.std.specs.Prelude.{Bool, true, false, ◌||◌}
use Rattle.cond_logic.specs.declared.cond.Operand.{Operand}
use Rattle.cond_logic.specs.declared.cond.Operand.TheVariants.{Column, Lit, Param}
use Rattle.cond_logic.specs.Trees.{CondTree, CondTrees, no_more, and_more, all_of, any_of, inverted, compares, null_test, known}

abbrev pub is_parameter : Operand → Bool
is_parameter (Column c) = false
is_parameter (Lit v) = false
is_parameter (Param i) = true

abbrev mutual
  pub has_parameter : CondTree → Bool
  has_parameter (all_of ts) = have_parameter ts
  has_parameter (any_of ts) = have_parameter ts
  has_parameter (inverted t) = has_parameter t
  has_parameter (compares op x y) = is_parameter x || is_parameter y
  has_parameter (null_test x) = is_parameter x
  has_parameter (known t) = false

  pub have_parameter : CondTrees → Bool
  have_parameter no_more = false
  have_parameter (and_more t ts) = has_parameter t || have_parameter ts
