-- What was compared up to a table on the way.
use Rattle.std.proofs.Common.{ℕ, ◌*◌, ◌≤◌, zero, suc, arith, List, Option, Some, None}
use Rattle.std.proofs.Math.Nat.{mul-le-mul_left, mul-le-mul_right}
use Rattle.pg_values.specs.declared.value.Value.{Value}
use Rattle.row_router.specs.Trees.{TableTree, LeafTable, LevelTable, Trees, End, More, child_of}
use Rattle.row_router.specs.Costs.{outcomes, way_outcomes, outcomes_in}

-- there is one outcome at least
some_product : (a b : ℕ) → 1 ≤ a → 1 ≤ b → 1 ≤ a * b
some_product a b one two = let more : 1 * b ≤ a * b = mul-le-mul_right b one in omega (arith, more, two)

mutual
  some_outcomes : (row : List Value) (t : TableTree) → 1 ≤ way_outcomes row t
  some_outcomes row (LeafTable node leaf) = omega arith
  some_outcomes row (LevelTable node level bounds kids) =
      some_product (outcomes bounds) (outcomes_in row (child_of level bounds row) kids) (omega arith) (some_within row (child_of level bounds row) kids)

  some_within : (row : List Value) (at : Option ℕ) (kids : Trees) → 1 ≤ outcomes_in row at kids
  some_within row None kids = omega arith
  some_within row (Some i) End = omega arith
  some_within row (Some zero) (More k ks) = some_outcomes row k
  some_within row (Some (suc i)) (More k ks) = some_within row (Some i) ks

-- so what was compared up to there is within the outcomes of the whole way
pub costs_so_far : (spent all : ℕ) (row : List Value) (t : TableTree) → spent * way_outcomes row t ≤ all → spent ≤ all
costs_so_far spent all row t cost = let more : spent * 1 ≤ spent * way_outcomes row t = mul-le-mul_left spent (some_outcomes row t) in omega (arith, more, cost)
