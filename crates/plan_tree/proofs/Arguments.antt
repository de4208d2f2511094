-- A condition with arguments in the places of its parameters is as true without the arguments as it was with them.
use Rattle.std.proofs.Common.{◌≡◌, ℕ, zero, suc, List, [], ◌∷◌, Option, Some, None, slice_get, slice_index_or, refl, ap}
use Rattle.pg_values.specs.declared.value.Value.{Value}
use Rattle.pg_values.specs.declared.value.Value.TheVariants.{Null}
use Rattle.cond_logic.specs.declared.cond.Operand.{Operand}
use Rattle.cond_logic.specs.declared.cond.Operand.TheVariants.{Column, Lit, Param}
use Rattle.cond_logic.specs.Rewriting.{given_or, operand_with, with_args, all_with_args}
use Rattle.cond_logic.specs.Trees.{CondTree, CondTrees, no_more, and_more, all_of, any_of, inverted, compares, null_test, known}
use Rattle.cond_logic.specs.Truths.{opposite, truth, least_of, greatest_of}
use Rattle.cond_logic.specs.Tuples.{Places, value_of}

-- behind the arguments a parameter is null
given_value : (rows : Places) (args : List Value) (i : ℕ) → value_of rows [] (given_or (slice_get args i) i) ≡ slice_index_or args i Null
given_value rows [] i = refl
given_value rows (a ∷ args) zero = refl
given_value rows (a ∷ args) (suc i) = later (slice_get args i) (given_value rows args i)
  where
    later : (g : Option Value) → value_of rows [] (given_or g i) ≡ slice_index_or args i Null → value_of rows [] (given_or g (suc i)) ≡ slice_index_or args i Null
    later None e = e
    later (Some v) e = e

module _ (rows : Places) (args : List Value) where
  operand_value : (x : Operand) → value_of rows [] (operand_with args x) ≡ value_of rows args x
  operand_value (Column c) = refl
  operand_value (Lit v) = refl
  operand_value (Param i) = given_value rows args i

  mutual
    pub given_true : (t : CondTree) → truth rows [] (with_args args t) ≡ truth rows args t
    given_true (all_of ts) = least_true ts
    given_true (any_of ts) = greatest_true ts
    given_true (inverted t) = ap opposite (given_true t)
    given_true (compares op x y) = rw (operand_value x, operand_value y) refl
    given_true (null_test x) = rw (operand_value x) refl
    given_true (known t) = refl

    least_true : (ts : CondTrees) → least_of rows [] (all_with_args args ts) ≡ least_of rows args ts
    least_true no_more = refl
    least_true (and_more t ts) = rw (given_true t, least_true ts) refl

    greatest_true : (ts : CondTrees) → greatest_of rows [] (all_with_args args ts) ≡ greatest_of rows args ts
    greatest_true no_more = refl
    greatest_true (and_more t ts) = rw (given_true t, greatest_true ts) refl
