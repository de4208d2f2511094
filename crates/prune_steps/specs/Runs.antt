-- What a search finds of a chain: its two ends among the stored points.
use Rattle.std.specs.Prelude.{◌≡◌, ◌<◌, ◌≤◌, ℕ, ◌-◌, Bool, true, false, List, length, Option, Some, None}
use Rattle.std.specs.List.{slice_index_or}
use Rattle.pg_values.specs.declared.value.Value.{Value}
use Rattle.bound_forms.specs.declared.partition_bound.Bound.{Bound}
use Rattle.bound_forms.specs.declared.partition_bound.Bound.TheVariants.{Default}
use Rattle.bound_forms.specs.declared.point.Fill.{Fill}
use Rattle.bound_forms.specs.declared.point.Fill.TheVariants.{Min, Max}
use Rattle.bound_forms.specs.Bounds.{is_below}
use Rattle.part_bounds.specs.Stored.{stored, range_points, in_sibling, upper_of, passes, width, FitsEnd, Splits}
use Rattle.bound_forms.specs.Points.{end_of}
use Rattle.cond_logic.specs.declared.cond.CompareOp.{CompareOp}
use Rattle.cond_logic.specs.declared.cond.CompareOp.TheVariants.{Eq as EqBy, Ne as NeBy, Lt as LtBy, Le as LeBy, Gt as GtBy, Ge as GeBy}
use Rattle.prune_steps.specs.declared.chain.ChainOp.{ChainOp}
use Rattle.prune_steps.specs.declared.chain.ChainOp.TheVariants.{Eq, Lt, Le, Gt, Ge}
use Rattle.prune_steps.specs.Chains.{Chain}

abbrev pub chain_op : CompareOp → Option ChainOp
chain_op EqBy = Some Eq
chain_op NeBy = None
chain_op LtBy = Some Lt
chain_op LeBy = Some Le
chain_op GtBy = Some Gt
chain_op GeBy = Some Ge

-- an end of the chain: of the values v1 .. vj all, or all but the last, and what fills it up
abbrev pub from_count : ChainOp → ℕ → ℕ
from_count Lt j = j - 1
from_count Le j = j - 1
from_count _ j = j

abbrev pub from_fill : ChainOp → Fill
from_fill Gt = Max
from_fill _ = Min

abbrev pub to_count : ChainOp → ℕ → ℕ
to_count Gt j = j - 1
to_count Ge j = j - 1
to_count _ j = j

abbrev pub to_fill : ChainOp → Fill
to_fill Lt = Min
to_fill _ = Max

-- the chain of a comparison with the last of the values, behind the others, in points of w edges
abbrev pub ends_of : ℕ → ChainOp → List Value → Chain
ends_of w op values = record {
  from = end_of w (from_count op (length values)) (from_fill op) values;
  to = end_of w (to_count op (length values)) (to_fill op) values;
}

-- ---- what the code finds of a chain

-- a range of the run whose upper point lies in no sibling, or that there is none
abbrev pub GapIn : List Bound → ℕ → ℕ → Type 0
GapIn bounds from to = (i : ℕ) × (from ≤ i) × (i < to) × (in_sibling bounds (upper_of (slice_index_or bounds i Default)) ≡ false)

abbrev pub NoGapIn : List Bound → ℕ → ℕ → Type 0
NoGapIn bounds from to = (i : ℕ) → from ≤ i → i < to → in_sibling bounds (upper_of (slice_index_or bounds i Default)) ≡ true

-- the numbers of the stored points that are not above the start, and below the end
pub record Ends (bounds : List Bound) (c : Chain) (start end : ℕ) : Type 0 where
  pub filled : 0 < length (range_points bounds) → is_below c.from c.to ≡ true
  pub start_is : Splits (passes true c.from) (range_points bounds) start
  pub end_is : Splits (passes false c.to) (range_points bounds) end

-- a key that a level can be asked for: a value, as many as there are key columns or fewer, comparable with the stored points
pub record CanAsk (bounds : List Bound) (op : ChainOp) (values : List Value) : Type 0 where
  pub some : 0 < length values
  pub few : 0 < length (stored bounds) → length values < width bounds
  pub start : FitsEnd bounds (from_count op (length values)) (from_fill op) values
  pub end : FitsEnd bounds (to_count op (length values)) (to_fill op) values
