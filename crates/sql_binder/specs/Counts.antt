-- LIMIT and OFFSET (7.6 LIMIT and OFFSET). A null one is none.
use Rattle.std.specs.Prelude.{ℕ, ℤ, pos, negsuc, List, [], ◌++◌, Option, Some, None, Result, Ok, Err}
use Rattle.pg_values.specs.declared.fault.Fault.{Fault}
use Rattle.pg_values.specs.declared.value.Kind.TheVariants.{Int8 as KInt8}
use Rattle.pg_values.specs.declared.value.Value.{Value}
use Rattle.pg_values.specs.declared.value.Value.TheVariants.{Null, Int4, Int8, Text, Day, Truth}
use Rattle.sql_ast.specs.Expressions.{Tree}
use Rattle.expression_binder.specs.Constants.{constant}
use Rattle.expression_binder.specs.Kinds.{counting_faults}
use Rattle.expression_binder.specs.Operands.{operand_faults, typed}
use Rattle.expression_binder.specs.Scopes.{Scope}

abbrev pub count_faults : Scope → Option Tree → List Fault
count_faults s None = []
count_faults s (Some t) = operand_faults s t ++ counting_faults (typed s t).given

abbrev pub counted : Fault → ℤ → Result (Option ℕ) Fault
counted negative (pos n) = Ok (Some n)
counted negative (negsuc n) = Err negative

abbrev pub count_in : Fault → Value → Result (Option ℕ) Fault
count_in negative (Int4 z) = counted negative z
count_in negative (Int8 z) = counted negative z
count_in negative Null = Ok None
count_in negative (Text z) = Ok None
count_in negative (Day d) = Ok None
count_in negative (Truth b) = Ok None

abbrev pub counted_in : Fault → Result Value Fault → Result (Option ℕ) Fault
counted_in negative (Ok v) = count_in negative v
counted_in negative (Err f) = Err f

-- the number of rows, or the fault of its constants or that it is negative
abbrev pub count : Fault → Scope → Option Tree → Result (Option ℕ) Fault
count negative s None = Ok None
count negative s (Some t) = counted_in negative (constant s KInt8 t)

abbrev pub or_none : Result (Option ℕ) Fault → Option ℕ
or_none (Ok n) = n
or_none (Err f) = None
