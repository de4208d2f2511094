-- What an output expression is worth for a tuple (4.2 Value Expressions; 9.27.2 Server Signaling Functions).
use Rattle.std.specs.Prelude.{ℕ, ℤ, pos, negsuc, Bool, false, ◌&&◌, nat_le, List, Option, Some, None, Result, Ok, Err}
use Rattle.pg_values.specs.declared.fault.Fault.{Fault}
use Rattle.pg_values.specs.declared.value.Value.{Value}
use Rattle.pg_values.specs.declared.value.Value.TheVariants.{Null, Int4, Int8, Text, Day, Truth}
use Rattle.value_rules.specs.Arithmetic.{computed}
use Rattle.value_rules.specs.declared.operators.Arith.{Arith}
use Rattle.value_rules.specs.declared.operators.ArithFault.{ArithFault}
use Rattle.cond_logic.specs.Scalars.{ScalarTree, column, literal, table_name, computes, cancels}
use Rattle.cond_logic.specs.Tuples.{Places, place, value_in}
use Rattle.cond_logic.specs.Faults.{arith_fault}
use Rattle.cond_logic.specs.Tables.{Leaf, Tables, table}

-- the name of a table as a text; where no row is there, null
abbrev pub as_text : Option Leaf → Value
as_text None = Null
as_text (Some leaf) = Text leaf.name

-- its place in the order in which tables were made, which is what tableoid is compared by
abbrev pub as_number : Option Leaf → Value
as_number None = Null
as_number (Some leaf) = Int8 (pos leaf.id.number)

-- ---- arithmetic

abbrev pub or_arith_fault : Value → Arith → Value → Result Value ArithFault → Result Value Fault
or_arith_fault a op b (Ok v) = Ok v
or_arith_fault a op b (Err e) = Err (arith_fault a op b e)

abbrev pub worked_out : Arith → Value → Value → Result Value Fault
worked_out op a b = or_arith_fault a op b (computed op a b)

-- left before right, and both before the operator
abbrev pub with_right : Arith → Value → Result Value Fault → Result Value Fault
with_right op a (Ok b) = worked_out op a b
with_right op a (Err f) = Err f

abbrev pub with_left : Arith → Result Value Fault → Result Value Fault → Result Value Fault
with_left op (Ok a) right = with_right op a right
with_left op (Err f) right = Err f

-- ---- sessions

-- sessions are numbered from 1
abbrev pub is_session : (sessions : ℕ) → ℤ → Bool
is_session sessions (pos n) = nat_le 1 n && nat_le n sessions
is_session sessions (negsuc n) = false

-- whether there is a session of that number; of null, null
abbrev pub answered : (sessions : ℕ) → Value → Value
answered sessions Null = Null
answered sessions (Int4 n) = Truth (is_session sessions n)
answered sessions (Int8 n) = Truth (is_session sessions n)
answered sessions (Text s) = Truth false
answered sessions (Day d) = Truth false
answered sessions (Truth b) = Truth false

abbrev pub answered_of : (sessions : ℕ) → Result Value Fault → Result Value Fault
answered_of sessions (Ok v) = Ok (answered sessions v)
answered_of sessions (Err f) = Err f

-- ---- values

-- for the rows of a tuple and the tables in which they lie; a column that is not there is null
abbrev pub value_for : (sessions : ℕ) → Places → Tables → ScalarTree → Result Value Fault
value_for sessions rows tables (column c) = Ok (value_in (place rows c.item) c.position)
value_for sessions rows tables (literal v) = Ok v
value_for sessions rows tables (table_name item) = Ok (as_text (table tables item))
value_for sessions rows tables (computes op x y) = with_left op (value_for sessions rows tables x) (value_for sessions rows tables y)
value_for sessions rows tables (cancels x) = answered_of sessions (value_for sessions rows tables x)
