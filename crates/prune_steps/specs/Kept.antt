-- Which children of a level a condition keeps, child by child (5.11.4 Partition Pruning).
use Rattle.std.specs.Prelude.{ℕ, ◌+◌, nat_lt, Bool, true, false, not, ◌&&◌, ◌||◌, List, length, Option, Some, None, if◌then◌else◌}
use Rattle.std.specs.List.{list_any}
use Rattle.pg_values.specs.declared.value.Value.{Value}
use Rattle.pg_values.specs.Order.{order}
use Rattle.pg_values.specs.declared.strategy.Strategy.{Strategy}
use Rattle.pg_values.specs.declared.strategy.Strategy.TheVariants.{Range as ByRange, List as ByList, Hash as ByHash}
use Rattle.bound_forms.specs.declared.partition_bound.Bound.{Bound}
use Rattle.bound_forms.specs.declared.partition_bound.Bound.TheVariants.{Default}
use Rattle.bound_forms.specs.Points.{is_null}
use Rattle.bound_forms.specs.Accepts.{accepts, is_default}
use Rattle.part_bounds.specs.Listings.{values_of, lists_null}
use Rattle.cond_logic.specs.declared.cond.CompareOp.{CompareOp}
use Rattle.cond_logic.specs.declared.cond.CompareOp.TheVariants.{Eq, Ne, Lt, Le, Gt, Ge}
use Rattle.cond_logic.specs.declared.truth.Truth3.{Truth3}
use Rattle.cond_logic.specs.declared.truth.Truth3.TheVariants.{Yes, No, Unknown}
use Rattle.cond_logic.specs.Trees.{CondTree, CondTrees, no_more, and_more, all_of, any_of, inverted, compares, null_test, known}
use Rattle.cond_logic.specs.Truths.{passes_by}
use Rattle.cond_logic.specs.Rewriting.{pushed, with_args}
use Rattle.prune_steps.specs.Atoms.{Asked, asked, key_of, reading, is_one, given, values_before, Reading, Never, Anything, On}
use Rattle.prune_steps.specs.Chains.{Chain, chain_of, chain_keeps}

-- ---- by range

abbrev pub by_chain : List Bound → (is_short : Bool) → Option Chain → Bound → Bool
by_chain bounds is_short None b = true
by_chain bounds is_short (Some c) b = chain_keeps bounds is_short c b

-- a comparison on key column j of n, behind the values that the columns before it are equal to
abbrev pub range_keeps : List Bound → (n : ℕ) → Option (List Value) → (j : ℕ) → CompareOp → Value → Bound → Bool
range_keeps bounds n None j op v b = true
range_keeps bounds n (Some p) j op v b = by_chain bounds (nat_lt (j + 1) n) (chain_of (n + 1) op p v) b

-- ---- by list

-- the bound lists a value that is not null and passes
abbrev pub lists_some : (Value → Bool) → Bound → Bool
lists_some test b = list_any (λ w. not (is_null w) && test w) (values_of b)

abbrev pub lists_passing : CompareOp → Value → Bound → Bool
lists_passing op v b = lists_some (λ w. passes_by op (order w v)) b

-- the default has the values that are not listed: under = the one value, else some
abbrev pub default_keeps : List Bound → CompareOp → Value → Bool
default_keeps bounds Eq v = not (list_any (lists_passing Eq v) bounds)
default_keeps bounds _ v = true

abbrev pub list_keeps : List Bound → CompareOp → Value → Bound → Bool
list_keeps bounds op v b = lists_passing op v b || (is_default b && default_keeps bounds op v)

-- ---- atoms

-- what a comparison keeps beside the equalities of its flattened AND; by hash it keeps all by itself
abbrev pub on_keeps : Asked → List Bound → (ℕ → Option Value) → Strategy → (j : ℕ) → CompareOp → Value → Bound → Bool
on_keeps a bounds first ByRange j op v b = range_keeps bounds (length a.level.columns) (values_before first j) j op v b
on_keeps a bounds first ByList j op v b = list_keeps bounds op v b
on_keeps a bounds first ByHash j op v b = true

abbrev pub reading_keeps : Asked → List Bound → (ℕ → Option Value) → Reading → Bound → Bool
reading_keeps a bounds first Never b = false
reading_keeps a bounds first Anything b = true
reading_keeps a bounds first (On j op v) b = on_keeps a bounds first a.level.strategy j op v b

-- IS NULL on a key column: no range accepts a null
abbrev pub null_keeps : Strategy → List Bound → Option ℕ → Bound → Bool
null_keeps strategy bounds None b = true
null_keeps ByRange bounds (Some j) b = is_default b
null_keeps ByList bounds (Some j) b = lists_null b || (is_default b && not (list_any lists_null bounds))
null_keeps ByHash bounds (Some j) b = true

-- IS NOT NULL on a key column
abbrev pub not_null_keeps : Strategy → Option ℕ → Bound → Bool
not_null_keeps strategy None b = true
not_null_keeps ByRange (Some j) b = true
not_null_keeps ByList (Some j) b = lists_some (λ w. true) b || is_default b
not_null_keeps ByHash (Some j) b = true

-- the part of a NOT that stands over IS NULL; another NOT keeps all
abbrev pub inverted_keeps : Asked → CondTree → Bound → Bool
inverted_keeps a (null_test x) b = not_null_keeps a.level.strategy (key_of a x) b
inverted_keeps a _ b = true

abbrev pub is_not_no : Truth3 → Bool
is_not_no No = false
is_not_no Yes = true
is_not_no Unknown = true

-- ---- conditions

-- by hash, where the flattened AND gives each key column a value or null, the one child that accepts these
abbrev pub key_keeps : Strategy → Option (List Value) → Bound → Bool
key_keeps ByHash (Some key) b = accepts key b
key_keeps strategy key b = true

-- the values that the flattened AND gives all key columns
abbrev pub full_key : Asked → CondTree → Option (List Value)
full_key a t = values_before (given a true t) (length a.level.columns)

abbrev mutual
  -- what a part of a flattened AND keeps beside the equalities of the AND
  pub part_keeps : Asked → List Bound → (ℕ → Option Value) → CondTree → Bound → Bool
  part_keeps a bounds first (all_of ts) b = parts_keep a bounds first ts b
  part_keeps a bounds first (any_of ts) b = if is_one ts then parts_keep a bounds first ts b else choices_keep a bounds ts b
  part_keeps a bounds first (inverted t) b = inverted_keeps a t b
  part_keeps a bounds first (compares op x y) b = reading_keeps a bounds first (reading a op x y) b
  part_keeps a bounds first (null_test x) b = null_keeps a.level.strategy bounds (key_of a x) b
  part_keeps a bounds first (known t) b = is_not_no t

  -- AND keeps the intersection
  pub parts_keep : Asked → List Bound → (ℕ → Option Value) → CondTrees → Bound → Bool
  parts_keep a bounds first no_more b = true
  parts_keep a bounds first (and_more t ts) b = part_keeps a bounds first t b && parts_keep a bounds first ts b

  -- OR keeps the union; each choice is a flattened AND of its own
  pub choices_keep : Asked → List Bound → CondTrees → Bound → Bool
  choices_keep a bounds no_more b = false
  choices_keep a bounds (and_more t ts) b = (key_keeps a.level.strategy (full_key a t) b && part_keeps a bounds (given a false t) t b) || choices_keep a bounds ts b

-- a condition by itself
abbrev pub whole_keeps : Asked → List Bound → CondTree → Bound → Bool
whole_keeps a bounds t b = key_keeps a.level.strategy (full_key a t) b && part_keeps a bounds (given a false t) t b

-- Kept: with the known arguments in the places of their parameters, and NOT pushed inwards
abbrev pub kept : Asked → List Bound → List Value → CondTree → Bound → Bool
kept a bounds args t b = whole_keeps a bounds (pushed (with_args args t)) b
