-- What a select list or SET computes, without where it lies in memory (4.2 Value Expressions).
use Rattle.std.specs.Prelude.{ℕ}
use Rattle.pg_values.specs.declared.value.Value.{Value}
use Rattle.value_rules.specs.declared.operators.Arith.{Arith as Operation}
use Rattle.cond_logic.specs.declared.cond.ColumnId.{ColumnId}
use Rattle.cond_logic.specs.declared.scalar.Scalar.{Scalar}
use Rattle.cond_logic.specs.declared.scalar.Scalar.TheOpen.{Scalar-F, Column, Lit, TableName, Arith, Cancel}
use Rattle.cond_logic.specs.declared.scalar.Scalar.TheFolds.{fold-Scalar}

pub data ScalarTree : Type 0 where
  column : ColumnId → ScalarTree
  literal : Value → ScalarTree
  table_name : (item : ℕ) → ScalarTree
  computes : Operation → ScalarTree → ScalarTree → ScalarTree
  cancels : ScalarTree → ScalarTree

-- one level, with the tree of each part in its place
abbrev pub scalar_level : Scalar-F ScalarTree → ScalarTree
scalar_level (Column c) = column c
scalar_level (Lit v) = literal v
scalar_level (TableName item) = table_name item
scalar_level (Arith op l r) = computes op l.value r.value
scalar_level (Cancel s) = cancels s.value

abbrev pub scalar_tree : Scalar → ScalarTree
scalar_tree = fold-Scalar ScalarTree scalar_level
