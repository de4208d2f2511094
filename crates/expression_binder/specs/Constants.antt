-- What an operand is worth: constant expressions are computed once, and a column stays a column (4.2.14 Expression
-- Evaluation Rules, 8 Data Types).
use Rattle.std.specs.Prelude.{ℕ, nat_le, pos, if◌then◌else◌, List, [], ◌∷◌, Option, Some, None, Result, Ok, Err}
use Rattle.pg_values.specs.declared.fault.Fault.{Fault}
use Rattle.pg_values.specs.declared.value.Kind.{Kind}
use Rattle.pg_values.specs.declared.value.Kind.TheVariants.{Int4 as KInt4, Text as KText, Day as KDay}
use Rattle.pg_values.specs.declared.value.Value.{Value}
use Rattle.pg_values.specs.declared.value.Value.TheVariants as value
use Rattle.refusals.specs.Refusals.{out_of_range, date_out_of_range, division_by_zero, no_operator, wrong_kind}
use Rattle.value_rules.specs.Reads.{reads}
use Rattle.value_rules.specs.Arithmetic as arithmetic
use Rattle.value_rules.specs.Assignment.{assigned}
use Rattle.value_rules.specs.declared.assignment.CoerceFault.{CoerceFault}
use Rattle.value_rules.specs.declared.assignment.CoerceFault.TheVariants.{Kinds, Range}
use Rattle.value_rules.specs.declared.operators.Arith.{Arith}
use Rattle.value_rules.specs.declared.operators.Arith.TheVariants.{Add, Sub, Mul, Div, Rem}
use Rattle.value_rules.specs.declared.operators.ArithFault.{ArithFault}
use Rattle.value_rules.specs.declared.operators.ArithFault.TheVariants.{OutOfRange, DateRange, ZeroDivisor, NoOperator}
use Rattle.sql_ast.specs.declared.leaf.Leaf.{Leaf}
use Rattle.sql_ast.specs.declared.leaf.Leaf.TheVariants.{Number, Text, Date, Null, Truth, Parameter, Column, ColumnOf, TableName, TableNameOf}
use Rattle.sql_ast.specs.declared.leaf.Operator.{Operator}
use Rattle.sql_ast.specs.declared.leaf.Operator.TheVariants as op
use Rattle.sql_ast.specs.Expressions.{Tree, Trees, no_more, and_more, leaf, call, call_of_all, negated, binary, in_list, between, is_null, inverted, all_of, any_of}
use Rattle.cond_logic.specs.Scalars.{ScalarTree, column, literal, table_name, computes, cancels}
use Rattle.expression_binder.specs.declared.scope.Param.{Param}
use Rattle.expression_binder.specs.declared.naming.Lookup.{Lookup}
use Rattle.expression_binder.specs.declared.naming.Lookup.TheVariants.{Missing, One, Several}
use Rattle.expression_binder.specs.Kinds.{kind_beside}
use Rattle.expression_binder.specs.Operands.{typed, zero_typed, is_pid}
use Rattle.expression_binder.specs.Scopes.{Item, Scope, look_up, look_up_in, item_called, param}
use Rattle.expression_binder.specs.Signs.{sign}

-- ---- leaves

-- a literal that fits no bigint has no value
abbrev pub number_value : ℕ → Result Value Fault
number_value n = if nat_le n 2147483647 then Ok (value.Int4 (pos n)) else (if nat_le n 9223372036854775807 then Ok (value.Int8 (pos n)) else Err out_of_range)

abbrev pub literal_of : Result Value Fault → Result ScalarTree Fault
literal_of (Ok v) = Ok (literal v)
literal_of (Err f) = Err f

abbrev pub param_value : Option Param → Value
param_value None = value.Null
param_value (Some p) = p.value

abbrev pub found_column : Lookup → ScalarTree
found_column Missing = literal value.Null
found_column (One h) = column h.column
found_column Several = literal value.Null

abbrev pub row_table : List Item → ScalarTree
row_table [] = literal value.Null
row_table (item ∷ items) = table_name item.number

abbrev pub item_table : Option Item → ScalarTree
item_table None = literal value.Null
item_table (Some item) = table_name item.number

-- a string literal is read as the kind that its place gives
abbrev pub leaf_scalar : Scope → Kind → Leaf → Result ScalarTree Fault
leaf_scalar s k (Number n) = literal_of (number_value n)
leaf_scalar s k (Text z) = literal_of (reads k z)
leaf_scalar s k (Date z) = literal_of (reads KDay z)
leaf_scalar s k Null = Ok (literal value.Null)
leaf_scalar s k (Truth b) = Ok (literal (value.Truth b))
leaf_scalar s k (Parameter n) = Ok (literal (param_value (param s.params n)))
leaf_scalar s k (Column c) = Ok (found_column (look_up s.items c))
leaf_scalar s k (ColumnOf t c) = Ok (found_column (look_up_in (item_called s.items t) c))
leaf_scalar s k TableName = Ok (row_table s.items)
leaf_scalar s k (TableNameOf t) = Ok (item_table (item_called s.items t))

-- ---- arithmetic

abbrev pub arith_of : Operator → Arith
arith_of op.Subtract = Sub
arith_of op.Multiply = Mul
arith_of op.Divide = Div
arith_of op.Remainder = Rem
arith_of _ = Add

abbrev pub arith_fault : Operator → ArithFault → Fault
arith_fault o OutOfRange = out_of_range
arith_fault o DateRange = date_out_of_range
arith_fault o ZeroDivisor = division_by_zero
arith_fault o NoOperator = no_operator KText (sign o) KText

abbrev pub or_arith : Operator → Result Value ArithFault → Result ScalarTree Fault
or_arith o (Ok v) = Ok (literal v)
or_arith o (Err e) = Err (arith_fault o e)

abbrev pub as_literal : ScalarTree → Option Value
as_literal (literal v) = Some v
as_literal (column c) = None
as_literal (table_name item) = None
as_literal (computes o x y) = None
as_literal (cancels x) = None

-- two constants make a constant
abbrev pub operated_by : Operator → ScalarTree → ScalarTree → Option Value → Option Value → Result ScalarTree Fault
operated_by o x y (Some v) (Some w) = or_arith o (arithmetic.computed (arith_of o) v w)
operated_by o x y (Some v) None = Ok (computes (arith_of o) x y)
operated_by o x y None w = Ok (computes (arith_of o) x y)

abbrev pub operated : Operator → ScalarTree → ScalarTree → Result ScalarTree Fault
operated o x y = operated_by o x y (as_literal x) (as_literal y)

-- left before right, and both before the operator
abbrev pub with_right : Operator → ScalarTree → Result ScalarTree Fault → Result ScalarTree Fault
with_right o x (Ok y) = operated o x y
with_right o x (Err f) = Err f

abbrev pub with_left : Operator → Result ScalarTree Fault → Result ScalarTree Fault → Result ScalarTree Fault
with_left o (Ok x) r = with_right o x r
with_left o (Err f) r = Err f

abbrev pub zero_scalar : ScalarTree
zero_scalar = literal (value.Int4 (pos 0))

-- ---- operands

abbrev pub cancel_of : Result ScalarTree Fault → Result ScalarTree Fault
cancel_of (Ok x) = Ok (cancels x)
cancel_of (Err f) = Err f

abbrev mutual
  -- in a place of the kind
  pub scalar : Scope → Kind → Tree → Result ScalarTree Fault
  scalar s k (leaf l) = leaf_scalar s k l
  scalar s k (call f ts) = if is_pid f then literal_of (number_value s.session) else cancel_of (first_argument s ts)
  scalar s k (call_of_all f) = Ok (literal value.Null)
  scalar s k (negated e) = with_left op.Subtract (Ok zero_scalar) (scalar s (kind_beside op.Subtract zero_typed.given (typed s e).given) e)
  scalar s k (binary o x y) =
      with_left o (scalar s (kind_beside o (typed s y).given (typed s x).given) x) (scalar s (kind_beside o (typed s x).given (typed s y).given) y)
  scalar s k (in_list b x ts) = Ok (literal value.Null)
  scalar s k (between b x y z) = Ok (literal value.Null)
  scalar s k (is_null b x) = Ok (literal value.Null)
  scalar s k (inverted e) = Ok (literal value.Null)
  scalar s k (all_of ts) = Ok (literal value.Null)
  scalar s k (any_of ts) = Ok (literal value.Null)

  pub first_argument : Scope → Trees → Result ScalarTree Fault
  first_argument s no_more = Ok (literal value.Null)
  first_argument s (and_more t ts) = scalar s KInt4 t

-- ---- constants

abbrev pub or_null : Option Value → Value
or_null None = value.Null
or_null (Some v) = v

-- the value of a scalar that is one
abbrev pub literal_in : ScalarTree → Value
literal_in x = or_null (as_literal x)

abbrev pub value_in : Result ScalarTree Fault → Result Value Fault
value_in (Ok x) = Ok (literal_in x)
value_in (Err f) = Err f

abbrev pub constant : Scope → Kind → Tree → Result Value Fault
constant s k t = value_in (scalar s k t)

-- the value that a column of the kind gets
abbrev pub or_coerced : Kind → Result Value CoerceFault → Result Value Fault
or_coerced k (Ok v) = Ok v
or_coerced k (Err Range) = Err out_of_range
or_coerced k (Err Kinds) = Err (wrong_kind KText k)

abbrev pub stored : Kind → Result Value Fault → Result Value Fault
stored k (Ok v) = or_coerced k (assigned v k)
stored k (Err f) = Err f
