-- The ranges of integers (8.1.1 Integer Types) and of dates (8.5 Date/Time Types).
use Rattle.std.specs.Prelude.{ℤ, pos, neg_ℤ, Bool, true, false, not, ◌&&◌, int_lt, Option, Some, None, Result, Ok, Err, if◌then◌else◌}
use Rattle.pg_values.specs.Days.{is_day}
use Rattle.pg_values.specs.declared.value.Value.{Value}
use Rattle.pg_values.specs.declared.value.Value.TheVariants.{Int4, Int8, Day}

-- from -2147483648 to 2147483647
abbrev pub is_integer : ℤ → Bool
is_integer z = not (int_lt z (neg_ℤ (pos 2147483648))) && not (int_lt (pos 2147483647) z)

-- from -9223372036854775808 to 9223372036854775807
abbrev pub is_bigint : ℤ → Bool
is_bigint z = not (int_lt z (neg_ℤ (pos 9223372036854775808))) && not (int_lt (pos 9223372036854775807) z)

-- the number as an integer, or as a bigint, where it fits
abbrev pub fitted : Bool → ℤ → Option Value
fitted false z = if is_integer z then Some (Int4 z) else None
fitted true z = if is_bigint z then Some (Int8 z) else None

-- the day with this number, where it is one
abbrev pub dated : ℤ → Option Value
dated z = if is_day z then Some (Day z) else None

-- the value, or this fault
abbrev pub or_fault : {E : Type 0} → E → Option Value → Result Value E
or_fault e (Some v) = Ok v
or_fault e None = Err e
