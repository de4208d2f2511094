-- The order of rows by the keys of ORDER BY (7.5 Sorting Rows).
use Rattle.std.specs.Prelude.{ℕ, ◌+◌, Bool, true, false, not, List, [], ◌∷◌, slice_index_or, if◌then◌else◌}
use Rattle.std.specs.Ordering.{nat_cmp, on, then_cmp, flip_args, is_lt}
use Rattle.std.specs.declared.cmp.Ordering.{Ordering}
use Rattle.std.specs.declared.cmp.Ordering.TheVariants.{Equal}
use Rattle.pg_values.specs.declared.value.Value.{Value}
use Rattle.pg_values.specs.declared.value.Value.TheVariants.{Null}
use Rattle.pg_values.specs.Order.{order}
use Rattle.cond_logic.specs.Truths.{is_null}
use Rattle.cond_logic.specs.declared.select.SortKey.{SortKey}
use Rattle.select_answer.specs.declared.keyed_row.KeyedRow.{KeyedRow}

-- nulls stand before all others, or behind them
abbrev pub null_rank : Bool → Value → ℕ
null_rank first v = if is_null v then (if first then 0 else 2) else 1

abbrev pub directed : (descending : Bool) → Value → Value → Ordering
directed true = flip_args order
directed false = order

-- of two values of a key
abbrev pub value_order : SortKey → Value → Value → Ordering
value_order k = then_cmp (on (null_rank k.nulls_first) nat_cmp) (directed k.descending)

abbrev pub same : List Value → List Value → Ordering
same xs ys = Equal

-- by the first key, then by the others; their values stand from this place on
abbrev pub keys_order : (place : ℕ) → List SortKey → List Value → List Value → Ordering
keys_order place [] = same
keys_order place (k ∷ ks) = then_cmp (on (λ xs. slice_index_or xs place Null) (value_order k)) (keys_order (place + 1) ks)

abbrev pub row_less : List SortKey → KeyedRow → KeyedRow → Bool
row_less ks a b = is_lt (keys_order 0 ks a.keys b.keys)

-- ---- parts

-- the first of these rows does not go before the row
abbrev pub before_all : List SortKey → KeyedRow → List KeyedRow → Bool
before_all ks r [] = true
before_all ks r (q ∷ qs) = not (row_less ks q r)

-- what stands behind does not go before the last of what stands before
abbrev pub stands_right : List SortKey → (before behind : List KeyedRow) → Bool
stands_right ks [] behind = true
stands_right ks (r ∷ []) behind = before_all ks r behind
stands_right ks (r ∷ s ∷ rs) behind = stands_right ks (s ∷ rs) behind
