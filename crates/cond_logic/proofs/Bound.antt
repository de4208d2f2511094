-- A condition with arguments in the places of its parameters.
use Rattle.std.proofs.Common.{◌≡◌, ℕ, zero, suc, true, List, [], ◌∷◌, ◌++◌, Option, Some, None, length, slice_get, slice_index_or, refl, ap, arith}
use Rattle.pg_values.specs.declared.value.Value.{Value}
use Rattle.pg_values.specs.declared.value.Value.TheVariants.{Null}
use Rattle.cond_logic.specs.declared.cond.Operand.{Operand}
use Rattle.cond_logic.specs.declared.cond.Operand.TheVariants.{Column, Lit, Param}
use Rattle.cond_logic.specs.Tuples.{Places, value_of}
use Rattle.cond_logic.specs.Trees.{CondTree, CondTrees, no_more, and_more, all_of, any_of, inverted, compares, null_test, known}
use Rattle.cond_logic.specs.Truths.{opposite, truth, least_of, greatest_of}
use Rattle.cond_logic.specs.Rewriting.{given_or, operand_with, with_args, all_with_args, is_past, is_without, are_without}

given_value : (args later : List Value) (i : ℕ) (rows : Places) → value_of rows (args ++ later) (given_or (slice_get args i) i) ≡ slice_index_or (args ++ later) i Null
given_value [] later i rows = refl
given_value (a ∷ args) later zero rows = refl
given_value (a ∷ args) later (suc i) rows = given_in (slice_get args i) (given_value args later i rows)
  where
    given_in : (g : Option Value) → value_of rows (args ++ later) (given_or g i) ≡ slice_index_or (args ++ later) i Null → value_of rows ((a ∷ args) ++ later) (given_or g (suc i)) ≡ slice_index_or (args ++ later) i Null
    given_in None e = refl
    given_in (Some v) e = e

given_past : (args : List Value) (i : ℕ) → is_past (length args) (given_or (slice_get args i) i) ≡ true
given_past [] i = grind arith
given_past (a ∷ args) zero = refl
given_past (a ∷ args) (suc i) = past_in (slice_get args i) (given_past args i)
  where
    past_in : (g : Option Value) → is_past (length args) (given_or g i) ≡ true → is_past (suc (length args)) (given_or g (suc i)) ≡ true
    past_in None e = grind (arith, e)
    past_in (Some v) e = refl

operand_past : (args : List Value) (x : Operand) → is_past (length args) (operand_with args x) ≡ true
operand_past args (Column c) = refl
operand_past args (Lit v) = refl
operand_past args (Param i) = given_past args i

module _ (rows : Places) (args later : List Value) where
  operand_value : (x : Operand) → value_of rows (args ++ later) (operand_with args x) ≡ value_of rows (args ++ later) x
  operand_value (Column c) = refl
  operand_value (Lit v) = refl
  operand_value (Param i) = given_value args later i rows

  mutual
    pub bound_true : (t : CondTree) → truth rows (args ++ later) (with_args args t) ≡ truth rows (args ++ later) t
    bound_true (all_of ts) = all_true ts
    bound_true (any_of ts) = any_true ts
    bound_true (inverted t) = ap opposite (bound_true t)
    bound_true (compares op x y) = rw (operand_value x, operand_value y) refl
    bound_true (null_test x) = rw (operand_value x) refl
    bound_true (known t) = refl

    all_true : (ts : CondTrees) → least_of rows (args ++ later) (all_with_args args ts) ≡ least_of rows (args ++ later) ts
    all_true no_more = refl
    all_true (and_more t ts) = rw (bound_true t, all_true ts) refl

    any_true : (ts : CondTrees) → greatest_of rows (args ++ later) (all_with_args args ts) ≡ greatest_of rows (args ++ later) ts
    any_true no_more = refl
    any_true (and_more t ts) = rw (bound_true t, any_true ts) refl

mutual
  pub bound_without : (args : List Value) (t : CondTree) → is_without (length args) (with_args args t) ≡ true
  bound_without args (all_of ts) = all_without args ts
  bound_without args (any_of ts) = all_without args ts
  bound_without args (inverted t) = bound_without args t
  bound_without args (compares op x y) = rw (operand_past args x, operand_past args y) refl
  bound_without args (null_test x) = operand_past args x
  bound_without args (known t) = refl

  all_without : (args : List Value) (ts : CondTrees) → are_without (length args) (all_with_args args ts) ≡ true
  all_without args no_more = refl
  all_without args (and_more t ts) = rw (bound_without args t, all_without args ts) refl

-- ---- without arguments it stays as it is

operand_same : (x : Operand) → operand_with [] x ≡ x
operand_same (Column c) = refl
operand_same (Lit v) = refl
operand_same (Param i) = refl

mutual
  pub without_args : (t : CondTree) → with_args [] t ≡ t
  without_args (all_of ts) = ap all_of (all_without_args ts)
  without_args (any_of ts) = ap any_of (all_without_args ts)
  without_args (inverted t) = ap inverted (without_args t)
  without_args (compares op x y) = rw (operand_same x, operand_same y) refl
  without_args (null_test x) = ap null_test (operand_same x)
  without_args (known t) = refl

  all_without_args : (ts : CondTrees) → all_with_args [] ts ≡ ts
  all_without_args no_more = refl
  all_without_args (and_more t ts) = rw (without_args t, all_without_args ts) refl
