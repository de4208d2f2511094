-- The interval of points that a comparison gives, and which children of a range level it keeps (5.11.4 Partition
-- Pruning, 5.11.2 Declarative Partitioning).
use Rattle.std.specs.Prelude.{ℕ, ◌-◌, Bool, true, false, not, ◌&&◌, ◌||◌, List, [], ◌∷◌, ◌++◌, map, length, replicate, Option, Some, None}
use Rattle.std.specs.List.{list_any}
use Rattle.std.specs.Ordering.{is_lt, is_le}
use Rattle.pg_values.specs.declared.value.Value.{Value}
use Rattle.bound_forms.specs.declared.partition_bound.Bound.{Bound}
use Rattle.bound_forms.specs.declared.partition_bound.Bound.TheVariants.{Range, Default}
use Rattle.bound_forms.specs.declared.point.Edge.{Edge}
use Rattle.bound_forms.specs.declared.point.Edge.TheVariants.{Min, At, Max}
use Rattle.bound_forms.specs.Points.{point_order}
use Rattle.bound_forms.specs.Bounds.{is_below, greater, lesser}
use Rattle.part_bounds.specs.Stored.{in_sibling}
use Rattle.cond_logic.specs.declared.cond.CompareOp.{CompareOp}
use Rattle.cond_logic.specs.declared.cond.CompareOp.TheVariants.{Eq, Ne, Lt, Le, Gt, Ge}

-- an interval of points, from the first on and below the second
pub record Chain : Type 0 where
  pub from : List Edge
  pub to : List Edge

-- the values, filled up to w edges with the last one
abbrev pub filled : ℕ → List Value → Edge → List Edge
filled w values last = map At values ++ replicate (w - length values) last

-- the chain of a comparison with v on a key column, where the columns before it equal the values p; a point has w edges
abbrev pub chain_of : (w : ℕ) → CompareOp → (p : List Value) → (v : Value) → Option Chain
chain_of w Eq p v = Some (record { from = filled w (p ++ v ∷ []) Min; to = filled w (p ++ v ∷ []) Max })
chain_of w Lt p v = Some (record { from = filled w p Min; to = filled w (p ++ v ∷ []) Min })
chain_of w Le p v = Some (record { from = filled w p Min; to = filled w (p ++ v ∷ []) Max })
chain_of w Gt p v = Some (record { from = filled w (p ++ v ∷ []) Max; to = filled w p Max })
chain_of w Ge p v = Some (record { from = filled w (p ++ v ∷ []) Min; to = filled w p Max })
chain_of w Ne p v = None

-- the upper point of a sibling that lies in no sibling, is not below the start and is below the end
abbrev pub is_gap : List Bound → Chain → Bound → Bool
is_gap bounds c (Range lower upper) = not (in_sibling bounds upper) && is_le (point_order c.from upper) && is_lt (point_order upper c.to)
is_gap bounds c _ = false

-- a range that the chain meets: the greater of the two starts is below the lesser of the two ends. The default, where
-- the chain says nothing of the last key columns, where it starts in no sibling, or where a gap lies in it
abbrev pub chain_keeps : List Bound → (is_short : Bool) → Chain → Bound → Bool
chain_keeps bounds is_short c (Range lower upper) = is_below (greater c.from lower) (lesser c.to upper)
chain_keeps bounds is_short c Default = is_short || not (in_sibling bounds c.from) || list_any (is_gap bounds c) bounds
chain_keeps bounds is_short c _ = false
