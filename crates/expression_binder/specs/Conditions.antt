-- Conditions: their faults of names and kinds (9.1 Logical Operators, 9.2 Comparison Functions and Operators, 9.24 Row
-- and Array Comparisons).
use Rattle.std.specs.Prelude.{Bool, true, false, if◌then◌else◌, List, [], ◌∷◌, ◌++◌}
use Rattle.pg_values.specs.declared.fault.Fault.{Fault}
use Rattle.sql_ast.specs.declared.leaf.Operator.{Operator}
use Rattle.sql_ast.specs.declared.leaf.Operator.TheVariants as op
use Rattle.sql_ast.specs.Expressions.{Tree, Trees, no_more, and_more, leaf, call, call_of_all, negated, binary, in_list, between, is_null, inverted, all_of, any_of}
use Rattle.expression_binder.specs.declared.typed.Given.{Given}
use Rattle.expression_binder.specs.declared.typed.Typed.{Typed}
use Rattle.expression_binder.specs.Kinds.{is_arithmetic, truth_faults, comparison_faults}
use Rattle.expression_binder.specs.Operands.{typed, all_typed, operand_faults, operands_faults}
use Rattle.expression_binder.specs.Scopes.{Scope}

-- IN asks for equality with each value, NOT IN for inequality
abbrev pub in_op : (is_not : Bool) → Operator
in_op true = op.NotEqual
in_op false = op.Equal

-- BETWEEN asks to be at least the one and at most the other, NOT BETWEEN to be below or above
abbrev pub from_op : (is_not : Bool) → Operator
from_op true = op.Less
from_op false = op.GreaterEqual

abbrev pub to_op : (is_not : Bool) → Operator
to_op true = op.Greater
to_op false = op.LessEqual

abbrev pub list_faults : Operator → Given → List Typed → List Fault
list_faults o x [] = []
list_faults o x (y ∷ ys) = comparison_faults o x y.given ++ list_faults o x ys

-- an end of BETWEEN, and then its comparison
abbrev pub end_faults : Scope → Operator → (x end : Tree) → List Fault
end_faults s o x end = operand_faults s end ++ comparison_faults o (typed s x).given (typed s end).given

-- the lower end comes first, with all of it
abbrev pub range_faults : Scope → Bool → (x from to : Tree) → List Fault
range_faults s b x from to = end_faults s (from_op b) x from ++ end_faults s (to_op b) x to

-- an operand by itself is a condition where it is a boolean
abbrev pub alone_faults : Scope → Tree → List Fault
alone_faults s t = operand_faults s t ++ truth_faults (typed s t).given

abbrev mutual
  pub cond_faults : Scope → Tree → List Fault
  cond_faults s (leaf l) = alone_faults s (leaf l)
  cond_faults s (call f ts) = alone_faults s (call f ts)
  cond_faults s (call_of_all f) = operand_faults s (call_of_all f)
  cond_faults s (negated e) = alone_faults s (negated e)
  cond_faults s (binary o x y) =
      if is_arithmetic o then alone_faults s (binary o x y) else operand_faults s x ++ (operand_faults s y ++ comparison_faults o (typed s x).given (typed s y).given)
  cond_faults s (in_list b x ts) = operand_faults s x ++ (operands_faults s ts ++ list_faults (in_op b) (typed s x).given (all_typed s ts))
  cond_faults s (between b x y z) = operand_faults s x ++ range_faults s b x y z
  cond_faults s (is_null b x) = operand_faults s x
  cond_faults s (inverted e) = cond_faults s e
  cond_faults s (all_of ts) = part_faults s ts
  cond_faults s (any_of ts) = part_faults s ts

  pub part_faults : Scope → Trees → List Fault
  part_faults s no_more = []
  part_faults s (and_more t ts) = cond_faults s t ++ part_faults s ts
