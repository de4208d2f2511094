-- Arithmetic on values (9.3 Mathematical Functions and Operators, 9.9 Date/Time Functions and Operators).
use Rattle.std.specs.Prelude.{ℤ, pos, ◌+ℤ◌, ◌-ℤ◌, ◌*ℤ◌, Bool, true, false, int_div, int_rem, Result, Ok, Err, if◌then◌else◌}
use Rattle.std.specs.Ordering.{int_eq}
use Rattle.value_rules.specs.Ranges.{fitted, dated, or_fault}
use Rattle.pg_values.specs.declared.value.Value.{Value}
use Rattle.pg_values.specs.declared.value.Value.TheVariants.{Null, Int4, Int8, Text, Day, Truth}
use Rattle.value_rules.specs.declared.operators.Arith.{Arith}
use Rattle.value_rules.specs.declared.operators.Arith.TheVariants.{Add, Sub, Mul, Div, Rem}
use Rattle.value_rules.specs.declared.operators.ArithFault.{ArithFault}
use Rattle.value_rules.specs.declared.operators.ArithFault.TheVariants.{OutOfRange, DateRange, ZeroDivisor, NoOperator}

-- division truncates towards zero, and the remainder has the sign of the number that is divided
abbrev pub number : Arith → ℤ → ℤ → Result ℤ ArithFault
number Add m n = Ok (m +ℤ n)
number Sub m n = Ok (m -ℤ n)
number Mul m n = Ok (m *ℤ n)
number Div m n = if int_eq n (pos 0) then Err ZeroDivisor else Ok (int_div m n)
number Rem m n = if int_eq n (pos 0) then Err ZeroDivisor else Ok (int_rem m n)

-- the number as an integer, or as a bigint
abbrev pub whole : Bool → Result ℤ ArithFault → Result Value ArithFault
whole wide (Ok z) = or_fault OutOfRange (fitted wide z)
whole wide (Err e) = Err e

-- a date and an integer
abbrev pub moved : Arith → ℤ → ℤ → Result Value ArithFault
moved Add d n = or_fault DateRange (dated (d +ℤ n))
moved Sub d n = or_fault DateRange (dated (d -ℤ n))
moved Mul d n = Err NoOperator
moved Div d n = Err NoOperator
moved Rem d n = Err NoOperator

-- an integer and a date
abbrev pub moved_by : Arith → ℤ → ℤ → Result Value ArithFault
moved_by Add n d = or_fault DateRange (dated (d +ℤ n))
moved_by Sub n d = Err NoOperator
moved_by Mul n d = Err NoOperator
moved_by Div n d = Err NoOperator
moved_by Rem n d = Err NoOperator

-- two dates: the days from the second to the first
abbrev pub apart : Arith → ℤ → ℤ → Result Value ArithFault
apart Add d e = Err NoOperator
apart Sub d e = or_fault OutOfRange (fitted false (d -ℤ e))
apart Mul d e = Err NoOperator
apart Div d e = Err NoOperator
apart Rem d e = Err NoOperator

-- with null on the right the answer is null
abbrev pub refused : Value → Result Value ArithFault
refused Null = Ok Null
refused (Int4 n) = Err NoOperator
refused (Int8 n) = Err NoOperator
refused (Text s) = Err NoOperator
refused (Day d) = Err NoOperator
refused (Truth p) = Err NoOperator

-- an integer on the left: a bigint on the right makes a bigint
abbrev pub with_integer : Arith → ℤ → Value → Result Value ArithFault
with_integer op m Null = Ok Null
with_integer op m (Int4 n) = whole false (number op m n)
with_integer op m (Int8 n) = whole true (number op m n)
with_integer op m (Text s) = Err NoOperator
with_integer op m (Day d) = moved_by op m d
with_integer op m (Truth p) = Err NoOperator

abbrev pub with_bigint : Arith → ℤ → Value → Result Value ArithFault
with_bigint op m Null = Ok Null
with_bigint op m (Int4 n) = whole true (number op m n)
with_bigint op m (Int8 n) = whole true (number op m n)
with_bigint op m (Text s) = Err NoOperator
with_bigint op m (Day d) = Err NoOperator
with_bigint op m (Truth p) = Err NoOperator

abbrev pub with_date : Arith → ℤ → Value → Result Value ArithFault
with_date op d Null = Ok Null
with_date op d (Int4 n) = moved op d n
with_date op d (Int8 n) = Err NoOperator
with_date op d (Text s) = Err NoOperator
with_date op d (Day e) = apart op d e
with_date op d (Truth p) = Err NoOperator

-- null where a side is null, whatever the other side is
abbrev pub computed : Arith → Value → Value → Result Value ArithFault
computed op Null b = Ok Null
computed op (Int4 m) b = with_integer op m b
computed op (Int8 m) b = with_bigint op m b
computed op (Text s) b = refused b
computed op (Day d) b = with_date op d b
computed op (Truth p) b = refused b
