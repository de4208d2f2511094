-- How often a condition that is asked of a level searches its bounds: once for each comparison that gives a chain, and once
-- for each of listed values. That is at most once for each comparison of a key column with a known value.
use Rattle.std.specs.Prelude.{ℕ, ◌+◌, false, List, Option, Some, None, if◌then◌else◌}
use Rattle.pg_values.specs.declared.value.Value.{Value}
use Rattle.pg_values.specs.declared.strategy.Strategy.{Strategy}
use Rattle.pg_values.specs.declared.strategy.Strategy.TheVariants.{Range as ByRange, List as ByList, Hash as ByHash}
use Rattle.cond_logic.specs.declared.cond.CompareOp.{CompareOp}
use Rattle.cond_logic.specs.declared.cond.CompareOp.TheVariants.{Eq, Ne, Lt, Le, Gt, Ge}
use Rattle.cond_logic.specs.Trees.{CondTree, CondTrees, no_more, and_more, all_of, any_of, inverted, compares, null_test, known}
use Rattle.prune_steps.specs.Atoms.{Asked, reading, is_one, given, values_before, Reading, Never, Anything, On}

-- where each of the columns before is given a value, and the values that pass lie together
abbrev pub searches_by_range : Option (List Value) → CompareOp → ℕ
searches_by_range None op = 0
searches_by_range (Some p) Eq = 1
searches_by_range (Some p) Ne = 0
searches_by_range (Some p) Lt = 1
searches_by_range (Some p) Le = 1
searches_by_range (Some p) Gt = 1
searches_by_range (Some p) Ge = 1

abbrev pub on_searches : (ℕ → Option Value) → Strategy → (j : ℕ) → CompareOp → ℕ
on_searches first ByRange j op = searches_by_range (values_before first j) op
on_searches first ByList j op = 1
on_searches first ByHash j op = 0

abbrev pub reading_searches : Asked → (ℕ → Option Value) → Reading → ℕ
reading_searches a first Never = 0
reading_searches a first Anything = 0
reading_searches a first (On j op v) = on_searches first a.level.strategy j op

abbrev mutual
  pub part_searches : Asked → (ℕ → Option Value) → CondTree → ℕ
  part_searches a first (all_of ts) = parts_search a first ts
  part_searches a first (any_of ts) = if is_one ts then parts_search a first ts else choices_search a ts
  part_searches a first (inverted t) = 0
  part_searches a first (compares op x y) = reading_searches a first (reading a op x y)
  part_searches a first (null_test x) = 0
  part_searches a first (known t) = 0

  pub parts_search : Asked → (ℕ → Option Value) → CondTrees → ℕ
  parts_search a first no_more = 0
  parts_search a first (and_more t ts) = part_searches a first t + parts_search a first ts

  -- each choice is a flattened AND of its own
  pub choices_search : Asked → CondTrees → ℕ
  choices_search a no_more = 0
  choices_search a (and_more t ts) = part_searches a (given a false t) t + choices_search a ts

abbrev pub whole_searches : Asked → CondTree → ℕ
whole_searches a t = part_searches a (given a false t) t

-- ---- comparisons of a key column with a known value

abbrev pub reads_key : Reading → ℕ
reads_key (On j op v) = 1
reads_key Never = 0
reads_key Anything = 0

abbrev mutual
  -- how many of them stand in a condition
  pub comparison_count : Asked → CondTree → ℕ
  comparison_count a (all_of ts) = comparison_counts a ts
  comparison_count a (any_of ts) = comparison_counts a ts
  comparison_count a (inverted t) = 0
  comparison_count a (compares op x y) = reads_key (reading a op x y)
  comparison_count a (null_test x) = 0
  comparison_count a (known t) = 0

  pub comparison_counts : Asked → CondTrees → ℕ
  comparison_counts a no_more = 0
  comparison_counts a (and_more t ts) = comparison_count a t + comparison_counts a ts
