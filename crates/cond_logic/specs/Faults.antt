-- The faults of computing a value.
use Rattle.std.specs.Prelude.{ℕ, List, codes}
use Rattle.pg_values.specs.declared.fault.Fault.{Fault}
use Rattle.pg_values.specs.declared.value.Value.{Value}
use Rattle.pg_values.specs.Kinds.{kind_of}
use Rattle.refusals.specs.Refusals.{out_of_range, date_out_of_range, division_by_zero, no_operator}
use Rattle.value_rules.specs.declared.operators.Arith.{Arith}
use Rattle.value_rules.specs.declared.operators.Arith.TheVariants.{Add, Sub, Mul, Div, Rem}
use Rattle.value_rules.specs.declared.operators.ArithFault.{ArithFault}
use Rattle.value_rules.specs.declared.operators.ArithFault.TheVariants.{OutOfRange, DateRange, ZeroDivisor, NoOperator}

abbrev pub sign : Arith → List ℕ
sign Add = codes "+"
sign Sub = codes "-"
sign Mul = codes "*"
sign Div = codes "/"
sign Rem = codes "%"

-- Why two values are not computed. That there is no such operator, the binder has refused before.
abbrev pub arith_fault : Value → Arith → Value → ArithFault → Fault
arith_fault a op b OutOfRange = out_of_range
arith_fault a op b DateRange = date_out_of_range
arith_fault a op b ZeroDivisor = division_by_zero
arith_fault a op b NoOperator = no_operator (kind_of a) (sign op) (kind_of b)
