-- The signs of operators, as a fault tells them (9.3 Mathematical Functions and Operators, 9.2 Comparison Functions and
-- Operators).
use Rattle.std.specs.Prelude.{ℕ, List, codes}
use Rattle.sql_ast.specs.declared.leaf.Operator.{Operator}
use Rattle.sql_ast.specs.declared.leaf.Operator.TheVariants as op

abbrev pub sign : Operator → List ℕ
sign op.Add = codes "+"
sign op.Subtract = codes "-"
sign op.Multiply = codes "*"
sign op.Divide = codes "/"
sign op.Remainder = codes "%"
sign op.Equal = codes "="
sign op.NotEqual = codes "<>"
sign op.Less = codes "<"
sign op.LessEqual = codes "<="
sign op.Greater = codes ">"
sign op.GreaterEqual = codes ">="
