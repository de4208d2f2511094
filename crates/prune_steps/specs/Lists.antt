-- What a search finds of a comparison with listed values: a run of the stored points, and how many of them each child
-- has.
use Rattle.std.specs.Prelude.{◌≡◌, ◌<◌, ◌≤◌, ℕ, zero, suc, ◌+◌, ◌==◌, Bool, true, false, not, ◌&&◌, ◌||◌, List, [], ◌∷◌, length, nat_lt}
use Rattle.std.specs.List.{list_any, slice_index_or}
use Rattle.pg_values.specs.declared.value.Value.{Value}
use Rattle.pg_values.specs.Order.{order}
use Rattle.bound_forms.specs.declared.partition_bound.Bound.{Bound}
use Rattle.bound_forms.specs.declared.partition_bound.Bound.TheVariants.{Default}
use Rattle.bound_forms.specs.declared.point.Edge.{Edge}
use Rattle.bound_forms.specs.declared.point.Fill.TheVariants.{Min as WithMin}
use Rattle.bound_forms.specs.Points.{is_null, point_of, point_order}
use Rattle.bound_forms.specs.Accepts.{is_default}
use Rattle.bound_forms.specs.Listed.{only}
use Rattle.part_bounds.specs.Listings.{values_of, lists_null}
use Rattle.part_bounds.specs.Stored.{stored, width, FitsEnd}
use Rattle.cond_logic.specs.declared.cond.CompareOp.{CompareOp}
use Rattle.cond_logic.specs.declared.cond.CompareOp.TheVariants.{Eq, Ne, Lt, Le, Gt, Ge}
use Rattle.cond_logic.specs.Truths.{passes_by}
use Rattle.prune_steps.specs.declared.marks.Mark.{Mark}
use Rattle.prune_steps.specs.declared.marks.Mark.TheVariants.{Default as OfDefault, Null as OfNull, Value as OfValue}
use Rattle.prune_steps.specs.Bits.{in_run}
use Rattle.prune_steps.specs.Tallies.{tally, one}
use Rattle.prune_steps.specs.Kept.{lists_some}

-- ---- marks

abbrev pub is_null_or_not : Bool → Value → Bool
is_null_or_not true v = is_null v
is_null_or_not false v = not (is_null v)

abbrev pub is_marked : Mark → Bound → Bool
is_marked OfDefault b = is_default b
is_marked OfNull b = list_any (is_null_or_not true) (values_of b)
is_marked OfValue b = list_any (is_null_or_not false) (values_of b)

abbrev pub null_listed : List Bound → Bound → Bool
null_listed bounds b = lists_null b || (is_default b && not (list_any lists_null bounds))

abbrev pub value_listed : Bound → Bool
value_listed b = lists_some (λ w. true) b || is_default b

-- ---- counts

abbrev pub count_at : List ℕ → ℕ → ℕ
count_at counts k = slice_index_or counts k 0

-- how many of the first i points are in the run and of the child
abbrev pub owned_by : List ℕ → (from to i k : ℕ) → ℕ
owned_by owners from to zero k = 0
owned_by owners from to (suc i) k = one ((slice_index_or owners i 0 == k) && in_run from to i) + owned_by owners from to i k

-- a value in the run, or one outside of it
abbrev pub is_counted : Bool → ℕ → Bound → Bool
is_counted true n b = nat_lt 0 n
is_counted false n b = nat_lt n (tally (λ v. not (is_null v)) (values_of b))

-- ---- runs

-- the operator whose values are looked for: those that pass, or those that fail
abbrev pub looked_for : CompareOp → CompareOp
looked_for Eq = Eq
looked_for Ne = Eq
looked_for Lt = Lt
looked_for Ge = Lt
looked_for Le = Le
looked_for Gt = Le

abbrev pub passes_inside : CompareOp → Bool
passes_inside Eq = true
passes_inside Ne = false
passes_inside Lt = true
passes_inside Le = true
passes_inside Gt = false
passes_inside Ge = false

abbrev pub keeps_default : CompareOp → ℕ → ℕ → Bool
keeps_default Eq from to = from == to
keeps_default _ from to = true

-- the stored points of the run are those that the operator passes
pub record RunOf (bounds : List Bound) (op : CompareOp) (v : Value) (from to : ℕ) : Type 0 where
  pub order : from ≤ to
  pub within : to ≤ length (stored bounds)
  pub each : (i : ℕ) (d : List Edge) → i < length (stored bounds) → passes_by (looked_for op) (point_order (slice_index_or (stored bounds) i d) (point_of (v ∷ []))) ≡ in_run from to i

-- a value that a level can be asked for: comparable with the stored points
pub record CanAskList (bounds : List Bound) (values : List Value) : Type 0 where
  pub single : length values ≡ 1
  pub two : 0 < length (stored bounds) → width bounds ≡ 2
  pub fits : FitsEnd bounds 1 WithMin values
