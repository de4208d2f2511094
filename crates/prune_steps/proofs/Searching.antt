-- A condition searches a level at most once for each of its comparisons of a key column with a known value.
use Rattle.std.proofs.Common.{ℕ, ◌+◌, ◌*◌, ◌≤◌, Bool, true, false, List, arith, if◌then◌else◌}
use Rattle.std.specs.Prelude.{Option, Some, None}
use Rattle.std.proofs.Math.Nat.{mul-le-mul_left}
use Rattle.pg_values.specs.declared.value.Value.{Value}
use Rattle.pg_values.specs.declared.strategy.Strategy.{Strategy}
use Rattle.pg_values.specs.declared.strategy.Strategy.TheVariants.{Range as ByRange, List as ByList, Hash as ByHash}
use Rattle.cond_logic.specs.declared.cond.CompareOp.{CompareOp}
use Rattle.cond_logic.specs.declared.cond.CompareOp.TheVariants.{Eq, Ne, Lt, Le, Gt, Ge}
use Rattle.cond_logic.specs.Trees.{CondTree, CondTrees, no_more, and_more, all_of, any_of, inverted, compares, null_test, known}
use Rattle.prune_steps.specs.Atoms.{Asked, reading, is_one, given, values_before, Reading, Never, Anything, On}
use Rattle.prune_steps.specs.Searches.{searches_by_range, on_searches, reading_searches, part_searches, parts_search, choices_search, whole_searches, reads_key, comparison_count, comparison_counts}

range_most : (r : Option (List Value)) (op : CompareOp) → searches_by_range r op ≤ 1
range_most None op = omega arith
range_most (Some p) Eq = omega arith
range_most (Some p) Ne = omega arith
range_most (Some p) Lt = omega arith
range_most (Some p) Le = omega arith
range_most (Some p) Gt = omega arith
range_most (Some p) Ge = omega arith

on_most : (f : ℕ → Option Value) (s : Strategy) (j : ℕ) (op : CompareOp) → on_searches f s j op ≤ 1
on_most f ByRange j op = range_most (values_before f j) op
on_most f ByList j op = omega arith
on_most f ByHash j op = omega arith

reading_most : (a : Asked) (f : ℕ → Option Value) (r : Reading) → reading_searches a f r ≤ reads_key r
reading_most a f Never = omega arith
reading_most a f Anything = omega arith
reading_most a f (On j op v) = on_most f a.level.strategy j op

either_most : (b : Bool) (m n most : ℕ) → m ≤ most → n ≤ most → (if b then m else n) ≤ most
either_most true m n most h k = h
either_most false m n most h k = k

mutual
  pub part_most : (a : Asked) (f : ℕ → Option Value) (t : CondTree) → part_searches a f t ≤ comparison_count a t
  part_most a f (all_of ts) = parts_most a f ts
  part_most a f (any_of ts) = either_most (is_one ts) (parts_search a f ts) (choices_search a ts) (comparison_counts a ts) (parts_most a f ts) (choices_most a ts)
  part_most a f (inverted t) = omega arith
  part_most a f (compares op x y) = reading_most a f (reading a op x y)
  part_most a f (null_test x) = omega arith
  part_most a f (known t) = omega arith

  parts_most : (a : Asked) (f : ℕ → Option Value) (ts : CondTrees) → parts_search a f ts ≤ comparison_counts a ts
  parts_most a f no_more = omega arith
  parts_most a f (and_more t ts) = let u = part_most a f t in let v = parts_most a f ts in omega (arith, u, v)

  choices_most : (a : Asked) (ts : CondTrees) → choices_search a ts ≤ comparison_counts a ts
  choices_most a no_more = omega arith
  choices_most a (and_more t ts) = let u = part_most a (given a false t) t in let v = choices_most a ts in omega (arith, u, v)

pub whole_most : (a : Asked) (t : CondTree) (old new d : ℕ) → new ≤ old + 2 * d * whole_searches a t → new ≤ old + 2 * d * comparison_count a t
whole_most a t old new d h = let more = mul-le-mul_left (2 * d) (part_most a (given a false t) t) in omega (arith, h, more)
