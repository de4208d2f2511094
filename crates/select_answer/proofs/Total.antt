-- The order of rows by keys is total.
use Rattle.std.proofs.Common.{ℕ, ◌+◌, Bool, true, false, List, [], ◌∷◌, refl}
use Rattle.std.specs.Prelude.{slice_index_or}
use Rattle.std.specs.Cmp.{IsTotalOrder, IsStrictWeakOrder, on_total, then_total, back_total, nat_cmp_total}
use Rattle.std.proofs.lemmas.List.Sorted.{ranks_by}
use Rattle.pg_values.specs.declared.value.Value.TheVariants.{Null}
use Rattle.pg_values.specs.KeyKinds.{order_total}
use Rattle.cond_logic.specs.declared.select.SortKey.{SortKey}
use Rattle.select_answer.specs.Keys.{null_rank, directed, value_order, keys_order, row_less, same}

directed_total : (d : Bool) → IsTotalOrder (directed d)
directed_total true = back_total order_total
directed_total false = order_total

value_total : (k : SortKey) → IsTotalOrder (value_order k)
value_total k = then_total (on_total (null_rank k.nulls_first) nat_cmp_total) (directed_total k.descending)

same_total : IsTotalOrder same
same_total = record { antisymm = λ x y. refl; trans = λ x y z p q. cc; congr = λ x y z p. refl }

keys_total : (place : ℕ) (ks : List SortKey) → IsTotalOrder (keys_order place ks)
keys_total place [] = same_total
keys_total place (k ∷ ks) = then_total (on_total (λ xs. slice_index_or xs place Null) (value_total k)) (keys_total (place + 1) ks)

pub row_weak : (ks : List SortKey) → IsStrictWeakOrder (row_less ks)
row_weak ks = ranks_by (keys_total 0 ks) (λ r. r.keys)
