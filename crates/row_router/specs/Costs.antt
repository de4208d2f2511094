-- How many comparisons of keys the way of a row takes: each level is searched by halves.
use Rattle.std.specs.Prelude.{ℕ, ◌+◌, ◌*◌, zero, suc, List, Option, Some, None, length}
use Rattle.pg_values.specs.declared.value.Value.{Value}
use Rattle.bound_forms.specs.declared.partition_bound.Bound.{Bound}
use Rattle.part_bounds.specs.Stored.{stored}
use Rattle.row_router.specs.Trees.{TableTree, LeafTable, LevelTable, Trees, End, More, child_of}

-- among so many outcomes a level decides: two for each stored point, and two
abbrev pub outcomes : List Bound → ℕ
outcomes bounds = 2 * length (stored bounds) + 2

-- the product of them over the levels on the way of a row
abbrev mutual
  pub way_outcomes : List Value → TableTree → ℕ
  way_outcomes row (LeafTable node leaf) = 1
  way_outcomes row (LevelTable node level bounds kids) = outcomes bounds * outcomes_in row (child_of level bounds row) kids

  pub outcomes_in : List Value → Option ℕ → Trees → ℕ
  outcomes_in row None kids = 1
  outcomes_in row (Some i) End = 1
  outcomes_in row (Some zero) (More k ks) = way_outcomes row k
  outcomes_in row (Some (suc i)) (More k ks) = outcomes_in row (Some i) ks
