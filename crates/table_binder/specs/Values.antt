-- The expressions of a bound, each by itself: it names nothing, so it is a constant (CREATE TABLE, partition_bound_expr;
-- 4.2.14 Expression Evaluation Rules).
use Rattle.std.specs.Prelude.{ℕ, List, [], ◌∷◌, ◌++◌, Result, Ok, Err, codes}
use Rattle.std.specs.Fmt.{decimal}
use Rattle.pg_values.specs.declared.fault.Fault.{Fault}
use Rattle.pg_values.specs.declared.value.Value.{Value}
use Rattle.refusals.specs.Refusals.{left_out}
use Rattle.sql_ast.specs.declared.leaf.Leaf.{Leaf}
use Rattle.sql_ast.specs.declared.leaf.Leaf.TheVariants.{Text, Parameter, Column, ColumnOf}
use Rattle.sql_ast.specs.Expressions.{Tree, Trees, no_more, and_more, leaf, call, call_of_all, negated, binary, in_list, between, is_null, inverted, all_of, any_of}
use Rattle.table_binder.specs.declared.raw_bound.RawValue.{RawValue}
use Rattle.table_binder.specs.declared.raw_bound.RawValue.TheVariants.{Literal, Given, Faulty}
use Rattle.expression_binder.specs.Constants.{constant}
use Rattle.expression_binder.specs.Kinds.{kind_alone}
use Rattle.expression_binder.specs.Operands.{operand_faults, typed}
use Rattle.expression_binder.specs.Scopes.{Scope, condition_scope}

-- where nothing may be named
abbrev pub no_names : Scope
no_names = condition_scope [] [] 0

-- a parameter is left out by its `$` and digits, a column by its name
abbrev pub parameter_left_out : ℕ → Fault
parameter_left_out n = left_out (codes "$" ++ decimal n)

abbrev pub name_faults : Leaf → List Fault
name_faults (Parameter n) = parameter_left_out n ∷ []
name_faults (Column c) = left_out c ∷ []
name_faults (ColumnOf t c) = left_out c ∷ []
name_faults _ = []

-- the faults of the parts, in text order, and behind them those of the whole
abbrev mutual
  pub value_faults : Tree → List Fault
  value_faults (leaf l) = name_faults l ++ operand_faults no_names (leaf l)
  value_faults (call f ts) = values_faults ts ++ operand_faults no_names (call f ts)
  value_faults (call_of_all f) = operand_faults no_names (call_of_all f)
  value_faults (negated e) = value_faults e ++ operand_faults no_names (negated e)
  value_faults (binary o x y) = (value_faults x ++ value_faults y) ++ operand_faults no_names (binary o x y)
  value_faults (in_list b x ts) = value_faults x ++ (values_faults ts ++ operand_faults no_names (in_list b x ts))
  value_faults (between b x y z) = value_faults x ++ ((value_faults y ++ value_faults z) ++ operand_faults no_names (between b x y z))
  value_faults (is_null b x) = value_faults x ++ operand_faults no_names (is_null b x)
  value_faults (inverted e) = value_faults e ++ operand_faults no_names (inverted e)
  value_faults (all_of ts) = values_faults ts ++ operand_faults no_names (all_of ts)
  value_faults (any_of ts) = values_faults ts ++ operand_faults no_names (any_of ts)

  pub values_faults : Trees → List Fault
  values_faults no_more = []
  values_faults (and_more t ts) = value_faults t ++ values_faults ts

-- the faults of the parts alone, and the name that a leaf is
abbrev pub inner_faults : Tree → List Fault
inner_faults (leaf l) = name_faults l
inner_faults (call f ts) = values_faults ts
inner_faults (call_of_all f) = []
inner_faults (negated e) = value_faults e
inner_faults (binary o x y) = value_faults x ++ value_faults y
inner_faults (in_list b x ts) = value_faults x ++ values_faults ts
inner_faults (between b x y z) = value_faults x ++ (value_faults y ++ value_faults z)
inner_faults (is_null b x) = value_faults x
inner_faults (inverted e) = value_faults e
inner_faults (all_of ts) = values_faults ts
inner_faults (any_of ts) = values_faults ts

-- the first of the faults, else the answer
abbrev pub first_or : {T : Type 0} → List Fault → Result T Fault → Result T Fault
first_or [] answer = answer
first_or (f ∷ fs) answer = Err f

-- names and kinds come before constants; with no place to give it one, the value has its own kind
abbrev pub computed : Tree → Result Value Fault
computed t = first_or (value_faults t) (constant no_names (kind_alone (typed no_names t).given) t)

abbrev pub given_or_faulty : Result Value Fault → RawValue
given_or_faulty (Ok v) = Given v
given_or_faulty (Err f) = Faulty f

-- a string literal by itself waits for its column
abbrev pub raw_value : Tree → RawValue
raw_value (leaf (Text z)) = Literal z
raw_value t = given_or_faulty (computed t)

abbrev pub raw_values : Trees → List RawValue
raw_values no_more = []
raw_values (and_more t ts) = raw_value t ∷ raw_values ts
