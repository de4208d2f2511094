-- What the bounds of a level can be asked for, by its strategy.
use Rattle.std.specs.Prelude.{◌≡◌, ◌<◌, List, ℕ, length}
use Rattle.pg_values.specs.declared.value.Value.{Value}
use Rattle.bound_forms.specs.declared.partition_bound.Bound.{Bound}
use Rattle.bound_forms.specs.Accepts.{FitsSet}
use Rattle.part_bounds.specs.Stored.{stored, width, IsRangeLevel, RangesFit, IsListLevel, IsHashLevel}
use Rattle.prune_steps.specs.declared.chain.ChainOp.{ChainOp}
use Rattle.prune_steps.specs.Lists.{CanAskList}
use Rattle.prune_steps.specs.Runs.{CanAsk}

-- for the chain of a comparison with the last of the values, behind the others, in points of w edges
pub record AskedByRange (bounds : List Bound) (op : ChainOp) (w : ℕ) (values : List Value) : Type 0 where
  pub ranges : IsRangeLevel bounds
  pub fit : RangesFit bounds
  pub edges : 0 < length (stored bounds) → width bounds ≡ w
  pub ends : CanAsk bounds op values

pub record AskedByList (bounds : List Bound) (values : List Value) : Type 0 where
  pub lists : IsListLevel bounds
  pub value : CanAskList bounds values

pub record AskedByHash (bounds : List Bound) (key : List Value) : Type 0 where
  pub hashes : IsHashLevel bounds
  pub fits : FitsSet bounds key
