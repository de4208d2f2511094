-- The values of a list as keys: one for all values that are the same.
use Rattle.std.specs.Prelude.{◌≡◌, true, IsTrue, List, map}
use Rattle.std.specs.Hash as fed
use Rattle.std.specs.Ordering.{is_eq}
use Rattle.std.specs.declared.cmp.Ordering.{Ordering}
use Rattle.std.specs.declared.cmp.Ordering.TheVariants.{Less, Equal, Greater}
use Rattle.std.proofs.Common.{refl, ap}
use Rattle.pg_values.specs.declared.value.Value.{Value}
use Rattle.pg_values.specs.Order.{order}
use Rattle.pg_values.specs.Hash.{value_hash}
use Rattle.pg_values.specs.KeyKinds.{hash_alike}
use Rattle.bound_forms.specs.Listed.{is_same}
use Rattle.table_binder.specs.declared.listed_value.ListedValue.{ListedValue}

abbrev pub value_of : ListedValue → Value
value_of k = k.value

abbrev pub values_in : List ListedValue → List Value
values_in keys = map value_of keys

is_equal : (r : Ordering) → is_eq r ≡ true → r ≡ Equal
is_equal Equal h = refl
is_equal Less h = cc
is_equal Greater h = cc

-- what is the same has one hash
pub fed_alike : (a b : ListedValue) → IsTrue (is_same (value_of a) (value_of b)) → fed.u64 (value_hash (value_of a)) ≡ fed.u64 (value_hash (value_of b))
fed_alike a b h = ap fed.u64 (hash_alike (value_of a) (value_of b) (is_equal (order (value_of a) (value_of b)) h))
