-- The kinds of operands, and what operators make of them (9.3 Mathematical Functions, 9.9 Date/Time Functions, 10.2
-- Operators).
use Rattle.std.specs.Prelude.{ℕ, ◌==◌, Bool, true, false, ◌||◌, ◌&&◌, not, nat_le, if◌then◌else◌, List, [], ◌∷◌, Option, Some, None, is_some}
use Rattle.pg_values.specs.declared.fault.Fault.{Fault}
use Rattle.pg_values.specs.declared.value.Kind.{Kind}
use Rattle.pg_values.specs.declared.value.Kind.TheVariants.{Int4 as KInt4, Int8 as KInt8, Text as KText, Day as KDay, Truth as KTruth}
use Rattle.refusals.specs.Refusals.{no_operator, left_out, wrong_kind, wrong_count}
use Rattle.sql_ast.specs.declared.leaf.Operator.{Operator}
use Rattle.sql_ast.specs.declared.leaf.Operator.TheVariants as op
use Rattle.expression_binder.specs.declared.scope.Allowed.{Allowed}
use Rattle.expression_binder.specs.declared.typed.Given.{Given}
use Rattle.expression_binder.specs.declared.typed.Given.TheVariants.{Of, Quoted, Nothing}
use Rattle.expression_binder.specs.declared.typed.Typed.{Typed}
use Rattle.expression_binder.specs.Firsts.{unless}
use Rattle.expression_binder.specs.Signs.{sign}

abbrev pub fixed : Given → Typed
fixed g = record { given = g; varies = false }

-- an integer literal is an integer where it fits
abbrev pub number_kind : ℕ → Kind
number_kind n = if nat_le n 2147483647 then KInt4 else KInt8

abbrev pub is_arithmetic : Operator → Bool
is_arithmetic op.Add = true
is_arithmetic op.Subtract = true
is_arithmetic op.Multiply = true
is_arithmetic op.Divide = true
is_arithmetic op.Remainder = true
is_arithmetic op.Equal = false
is_arithmetic op.NotEqual = false
is_arithmetic op.Less = false
is_arithmetic op.LessEqual = false
is_arithmetic op.Greater = false
is_arithmetic op.GreaterEqual = false

-- two integers: a bigint on one side makes a bigint
abbrev pub number_made : Kind → Kind → Option Kind
number_made KInt4 KInt4 = Some KInt4
number_made KInt4 KInt8 = Some KInt8
number_made KInt8 KInt4 = Some KInt8
number_made KInt8 KInt8 = Some KInt8
number_made _ _ = None

-- a date and days, in either order, or two numbers
abbrev pub sum_made : Kind → Kind → Option Kind
sum_made KDay KInt4 = Some KDay
sum_made KInt4 KDay = Some KDay
sum_made k l = number_made k l

-- days before a date, the days between two dates, or two numbers
abbrev pub difference_made : Kind → Kind → Option Kind
difference_made KDay KInt4 = Some KDay
difference_made KDay KDay = Some KInt4
difference_made k l = number_made k l

-- what the operator makes of the two kinds, where it is listed for them
abbrev pub kind_made : Operator → Kind → Kind → Option Kind
kind_made op.Add k l = sum_made k l
kind_made op.Subtract k l = difference_made k l
kind_made op.Multiply k l = number_made k l
kind_made op.Divide k l = number_made k l
kind_made op.Remainder k l = number_made k l
kind_made _ k l = None

-- a string literal takes the other side's kind where the operator is listed for two of it
abbrev pub literal_beside : Operator → Kind → Kind
literal_beside o k = if is_some (kind_made o k k) then k else KText

-- and so does null, which beside a date that is added to is a number of days
abbrev pub null_beside : Operator → Kind → Kind
null_beside op.Add KDay = KInt4
null_beside o k = literal_beside o k

-- the kind of an operand of arithmetic, beside the other one
abbrev pub kind_beside : Operator → (other own : Given) → Kind
kind_beside o other (Of k) = k
kind_beside o (Of k) Quoted = literal_beside o k
kind_beside o Quoted Quoted = KText
kind_beside o Nothing Quoted = KText
kind_beside o (Of k) Nothing = null_beside o k
kind_beside o Quoted Nothing = KText
kind_beside o Nothing Nothing = KText

-- the kind of an operand with no other one beside it: a literal with no place is a text
abbrev pub kind_alone : Given → Kind
kind_alone (Of k) = k
kind_alone Quoted = KText
kind_alone Nothing = KText

-- the kind of one side of a comparison: a string literal and null take that of the other side
abbrev pub side_kind : (other own : Given) → Kind
side_kind other (Of k) = k
side_kind other Quoted = kind_alone other
side_kind other Nothing = kind_alone other

-- the kinds may be compared
abbrev pub are_alike : Kind → Kind → Bool
are_alike KInt4 KInt4 = true
are_alike KInt4 KInt8 = true
are_alike KInt8 KInt4 = true
are_alike KInt8 KInt8 = true
are_alike KText KText = true
are_alike KDay KDay = true
are_alike KTruth KTruth = true
are_alike _ _ = false

abbrev pub given_by : Option Kind → Given
given_by None = Nothing
given_by (Some k) = Of k

-- what an operator makes of two operands
abbrev pub given_made : Operator → Given → Given → Given
given_made o x y = given_by (kind_made o (kind_beside o y x) (kind_beside o x y))

-- what an operator makes of its sides
abbrev pub joined : Operator → Typed → Typed → Typed
joined o x y = record {
  given = given_made o x.given y.given;
  varies = x.varies || y.varies;
}

-- arithmetic is listed for the two kinds
abbrev pub arithmetic_faults : Operator → Given → Given → List Fault
arithmetic_faults o x y =
    unless (is_some (kind_made o (kind_beside o y x) (kind_beside o x y))) (no_operator (kind_beside o y x) (sign o) (kind_beside o x y))

-- an operator of conditions has no place in an operand, and arithmetic over columns not in every one
abbrev pub join_faults : Allowed → Operator → Typed → Typed → List Fault
join_faults allowed o x y =
    if not (is_arithmetic o) || ((x.varies || y.varies) && not allowed.arithmetic) then left_out (sign o) ∷ [] else arithmetic_faults o x.given y.given

-- the two sides of a comparison are alike
unfoldable pub comparison_faults : Operator → Given → Given → List Fault
comparison_faults o x y = unless (are_alike (side_kind y x) (side_kind x y)) (no_operator (side_kind y x) (sign o) (side_kind x y))

abbrev pub is_truth : Given → Bool
is_truth (Of KTruth) = true
is_truth _ = false

-- an operand that stands for a condition by itself is a boolean
abbrev pub truth_faults : Given → List Fault
truth_faults g = unless (is_truth g) (wrong_kind (kind_alone g) KTruth)

-- an operand that a column of the kind gets
abbrev pub assigned_faults : Kind → Given → List Fault
assigned_faults kind (Of k) = unless (are_alike k kind) (wrong_kind k kind)
assigned_faults kind Quoted = []
assigned_faults kind Nothing = []

-- a number of rows is an integer or a bigint
abbrev pub counting_faults : Given → List Fault
counting_faults (Of k) = unless (are_alike k KInt8) (wrong_kind k KInt8)
counting_faults Quoted = []
counting_faults Nothing = []

-- as many values as are wanted
abbrev pub count_faults : (given wanted : ℕ) → List Fault
count_faults given wanted = unless (given == wanted) (wrong_count given wanted)
