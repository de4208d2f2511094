-- The two rewritings of a condition: NOT pushed inwards, and known arguments in the places of their
-- parameters.
use Rattle.std.specs.Prelude.{ℕ, Bool, true, false, not, ◌&&◌, List, Option, Some, None, slice_get, nat_lt}
use Rattle.pg_values.specs.declared.value.Value.{Value}
use Rattle.cond_logic.specs.declared.cond.CompareOp.{CompareOp}
use Rattle.cond_logic.specs.declared.cond.CompareOp.TheVariants.{Eq, Ne, Lt, Le, Gt, Ge}
use Rattle.cond_logic.specs.declared.cond.Operand.{Operand}
use Rattle.cond_logic.specs.declared.cond.Operand.TheVariants.{Column, Lit, Param}
use Rattle.cond_logic.specs.Truths.{opposite}
use Rattle.cond_logic.specs.Trees.{CondTree, CondTrees, no_more, and_more, all_of, any_of, inverted, compares, null_test, known}

-- ---- NOT pushed inwards

abbrev pub opposite_op : CompareOp → CompareOp
opposite_op Eq = Ne
opposite_op Ne = Eq
opposite_op Lt = Ge
opposite_op Le = Gt
opposite_op Gt = Le
opposite_op Ge = Lt

abbrev mutual
  -- the condition with NOT over IS NULL alone
  pub pushed : CondTree → CondTree
  pushed (all_of ts) = all_of (all_pushed ts)
  pushed (any_of ts) = any_of (all_pushed ts)
  pushed (inverted t) = negation t
  pushed (compares op x y) = compares op x y
  pushed (null_test x) = null_test x
  pushed (known t) = known t

  pub all_pushed : CondTrees → CondTrees
  all_pushed no_more = no_more
  all_pushed (and_more t ts) = and_more (pushed t) (all_pushed ts)

  -- and its negation likewise
  pub negation : CondTree → CondTree
  negation (all_of ts) = any_of (negations ts)
  negation (any_of ts) = all_of (negations ts)
  negation (inverted t) = pushed t
  negation (compares op x y) = compares (opposite_op op) x y
  negation (null_test x) = inverted (null_test x)
  negation (known t) = known (opposite t)

  pub negations : CondTrees → CondTrees
  negations no_more = no_more
  negations (and_more t ts) = and_more (negation t) (negations ts)

-- the one or the other
abbrev pub pushed_if : (negated : Bool) → CondTree → CondTree
pushed_if false t = pushed t
pushed_if true t = negation t

abbrev pub all_pushed_if : (negated : Bool) → CondTrees → CondTrees
all_pushed_if false ts = all_pushed ts
all_pushed_if true ts = negations ts

abbrev pub is_null_test : CondTree → Bool
is_null_test (null_test x) = true
is_null_test _ = false

abbrev mutual
  -- NOT stands over IS NULL alone
  pub is_pushed : CondTree → Bool
  is_pushed (all_of ts) = are_pushed ts
  is_pushed (any_of ts) = are_pushed ts
  is_pushed (inverted t) = is_null_test t
  is_pushed (compares op x y) = true
  is_pushed (null_test x) = true
  is_pushed (known t) = true

  pub are_pushed : CondTrees → Bool
  are_pushed no_more = true
  are_pushed (and_more t ts) = is_pushed t && are_pushed ts

-- ---- arguments in the places of parameters

abbrev pub given_or : Option Value → ℕ → Operand
given_or None i = Param i
given_or (Some v) i = Lit v

abbrev pub operand_with : List Value → Operand → Operand
operand_with args (Column c) = Column c
operand_with args (Lit v) = Lit v
operand_with args (Param i) = given_or (slice_get args i) i

abbrev mutual
  -- the condition with each argument that is given in its parameter's places
  pub with_args : List Value → CondTree → CondTree
  with_args args (all_of ts) = all_of (all_with_args args ts)
  with_args args (any_of ts) = any_of (all_with_args args ts)
  with_args args (inverted t) = inverted (with_args args t)
  with_args args (compares op x y) = compares op (operand_with args x) (operand_with args y)
  with_args args (null_test x) = null_test (operand_with args x)
  with_args args (known t) = known t

  pub all_with_args : List Value → CondTrees → CondTrees
  all_with_args args no_more = no_more
  all_with_args args (and_more t ts) = and_more (with_args args t) (all_with_args args ts)

-- the operand is no parameter among the first n
abbrev pub is_past : ℕ → Operand → Bool
is_past n (Column c) = true
is_past n (Lit v) = true
is_past n (Param i) = not (nat_lt i n)

abbrev mutual
  -- none of the first n parameters stands in the condition
  pub is_without : ℕ → CondTree → Bool
  is_without n (all_of ts) = are_without n ts
  is_without n (any_of ts) = are_without n ts
  is_without n (inverted t) = is_without n t
  is_without n (compares op x y) = is_past n x && is_past n y
  is_without n (null_test x) = is_past n x
  is_without n (known t) = true

  pub are_without : ℕ → CondTrees → Bool
  are_without n no_more = true
  are_without n (and_more t ts) = is_without n t && are_without n ts
