-- A condition beside a tuple: the columns of the items before have the values of the tuple's rows (7.2.1.1 Joined Tables).
use Rattle.std.specs.Prelude.{ℕ, nat_lt, if◌then◌else◌}
use Rattle.cond_logic.specs.declared.cond.Operand.{Operand}
use Rattle.cond_logic.specs.declared.cond.Operand.TheVariants.{Column, Lit, Param}
use Rattle.cond_logic.specs.Trees.{CondTree, CondTrees, no_more, and_more, all_of, any_of, inverted, compares, null_test, known}
use Rattle.cond_logic.specs.Tuples.{Places, place, value_in}

abbrev pub operand_beside : (before : ℕ) → Places → Operand → Operand
operand_beside n rows (Column c) = if nat_lt c.item n then Lit (value_in (place rows c.item) c.position) else Column c
operand_beside n rows (Lit v) = Lit v
operand_beside n rows (Param i) = Param i

abbrev mutual
  pub beside : (before : ℕ) → Places → CondTree → CondTree
  beside n rows (all_of ts) = all_of (all_beside n rows ts)
  beside n rows (any_of ts) = any_of (all_beside n rows ts)
  beside n rows (inverted t) = inverted (beside n rows t)
  beside n rows (compares op x y) = compares op (operand_beside n rows x) (operand_beside n rows y)
  beside n rows (null_test x) = null_test (operand_beside n rows x)
  beside n rows (known t) = known t

  pub all_beside : (before : ℕ) → Places → CondTrees → CondTrees
  all_beside n rows no_more = no_more
  all_beside n rows (and_more t ts) = and_more (beside n rows t) (all_beside n rows ts)
