-- The truth of a condition (9.1 Logical Operators, 9.2 Comparison Functions and Operators).
use Rattle.std.specs.Prelude.{Bool, true, false, List, if◌then◌else◌}
use Rattle.std.specs.declared.cmp.Ordering.{Ordering}
use Rattle.std.specs.Ordering.{is_lt, is_le, is_eq, is_gt, is_ge, is_ne}
use Rattle.pg_values.specs.declared.value.Value.{Value}
use Rattle.pg_values.specs.declared.value.Value.TheVariants.{Null}
use Rattle.pg_values.specs.Order.{order, are_comparable}
use Rattle.cond_logic.specs.declared.truth.Truth3.{Truth3}
use Rattle.cond_logic.specs.declared.truth.Truth3.TheVariants.{Yes, No, Unknown}
use Rattle.cond_logic.specs.declared.cond.CompareOp.{CompareOp}
use Rattle.cond_logic.specs.declared.cond.CompareOp.TheVariants.{Eq, Ne, Lt, Le, Gt, Ge}
use Rattle.cond_logic.specs.Tuples.{Places, value_of}
use Rattle.cond_logic.specs.Trees.{CondTree, CondTrees, no_more, and_more, all_of, any_of, inverted, compares, null_test, known}

-- AND: No is below Unknown, and Unknown below Yes
abbrev pub least : Truth3 → Truth3 → Truth3
least No t = No
least Yes t = t
least Unknown No = No
least Unknown Unknown = Unknown
least Unknown Yes = Unknown

-- OR
abbrev pub greatest : Truth3 → Truth3 → Truth3
greatest Yes t = Yes
greatest No t = t
greatest Unknown Yes = Yes
greatest Unknown Unknown = Unknown
greatest Unknown No = Unknown

-- NOT
abbrev pub opposite : Truth3 → Truth3
opposite Yes = No
opposite No = Yes
opposite Unknown = Unknown

abbrev pub decided : Bool → Truth3
decided true = Yes
decided false = No

abbrev pub is_null : Value → Bool
is_null Null = true
is_null _ = false

abbrev pub passes_by : CompareOp → Ordering → Bool
passes_by Eq o = is_eq o
passes_by Ne o = is_ne o
passes_by Lt o = is_lt o
passes_by Le o = is_le o
passes_by Gt o = is_gt o
passes_by Ge o = is_ge o

-- null is comparable with nothing
abbrev pub compared : CompareOp → Value → Value → Truth3
compared op a b = if are_comparable a b then decided (passes_by op (order a b)) else Unknown

abbrev mutual
  pub truth : Places → List Value → CondTree → Truth3
  truth rows args (all_of ts) = least_of rows args ts
  truth rows args (any_of ts) = greatest_of rows args ts
  truth rows args (inverted t) = opposite (truth rows args t)
  truth rows args (compares op x y) = compared op (value_of rows args x) (value_of rows args y)
  truth rows args (null_test x) = decided (is_null (value_of rows args x))
  truth rows args (known t) = t

  pub least_of : Places → List Value → CondTrees → Truth3
  least_of rows args no_more = Yes
  least_of rows args (and_more t ts) = least (truth rows args t) (least_of rows args ts)

  pub greatest_of : Places → List Value → CondTrees → Truth3
  greatest_of rows args no_more = No
  greatest_of rows args (and_more t ts) = greatest (truth rows args t) (greatest_of rows args ts)
