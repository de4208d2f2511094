-- Operands: their faults of names and kinds, and which kind they have where there is none. A part's faults come before
-- those of what it is a part of (4.2 Value Expressions).
use Rattle.std.specs.Prelude.{ℕ, Bool, true, false, if◌then◌else◌, List, [], ◌∷◌, ◌++◌, Option, Some, None, codes}
use Rattle.std.specs.Str.{bytes_eq}
use Rattle.pg_values.specs.declared.fault.Fault.{Fault}
use Rattle.pg_values.specs.declared.value.Kind.TheVariants.{Int4 as KInt4, Text as KText, Day as KDay, Truth as KTruth}
use Rattle.refusals.specs.Refusals.{no_table, no_column, ambiguous, no_parameter, no_function, left_out}
use Rattle.sql_ast.specs.declared.leaf.Leaf.{Leaf}
use Rattle.sql_ast.specs.declared.leaf.Leaf.TheVariants.{Number, Text, Date, Null, Truth, Parameter, Column, ColumnOf, TableName, TableNameOf}
use Rattle.sql_ast.specs.declared.leaf.Operator.TheVariants as op
use Rattle.sql_ast.specs.Expressions.{Tree, Trees, no_more, and_more, leaf, call, call_of_all, negated, binary, in_list, between, is_null, inverted, all_of, any_of}
use Rattle.expression_binder.specs.declared.scope.Allowed.{Allowed}
use Rattle.expression_binder.specs.declared.scope.Param.{Param}
use Rattle.expression_binder.specs.declared.naming.Lookup.{Lookup}
use Rattle.expression_binder.specs.declared.naming.Lookup.TheVariants.{Missing, One, Several}
use Rattle.expression_binder.specs.declared.typed.Given.{Given}
use Rattle.expression_binder.specs.declared.typed.Given.TheVariants.{Of, Quoted, Nothing}
use Rattle.expression_binder.specs.declared.typed.Typed.{Typed}
use Rattle.expression_binder.specs.Kinds.{number_kind, fixed, joined, join_faults}
use Rattle.expression_binder.specs.Scopes.{Item, Scope, look_up, look_up_in, item_called, param}

-- ---- leaves

abbrev pub look_up_faults : List ℕ → Lookup → List Fault
look_up_faults name Missing = no_column name ∷ []
look_up_faults name (One h) = []
look_up_faults name Several = ambiguous name ∷ []

abbrev pub in_item_faults : List ℕ → List ℕ → Option Item → List Fault
in_item_faults table name None = no_table table ∷ []
in_item_faults table name (Some item) = look_up_faults name (look_up_in (Some item) name)

abbrev pub param_faults : ℕ → Option Param → List Fault
param_faults n None = no_parameter n ∷ []
param_faults n (Some p) = []

-- each row lies in a table of its own item
abbrev pub row_table_faults : List Item → List Fault
row_table_faults [] = no_column (codes "tableoid") ∷ []
row_table_faults (i ∷ []) = []
row_table_faults (i ∷ j ∷ items) = ambiguous (codes "tableoid") ∷ []

abbrev pub item_faults : List ℕ → Option Item → List Fault
item_faults table None = no_table table ∷ []
item_faults table (Some item) = []

-- tableoid::regclass, where it may stand
abbrev pub table_name_faults : Bool → List Fault → List Fault
table_name_faults false faults = left_out (codes "::") ∷ []
table_name_faults true faults = faults

abbrev pub leaf_faults : Scope → Leaf → List Fault
leaf_faults s (Number n) = []
leaf_faults s (Text z) = []
leaf_faults s (Date z) = []
leaf_faults s Null = []
leaf_faults s (Truth b) = []
leaf_faults s (Parameter n) = param_faults n (param s.params n)
leaf_faults s (Column c) = look_up_faults c (look_up s.items c)
leaf_faults s (ColumnOf t c) = in_item_faults t c (item_called s.items t)
leaf_faults s TableName = table_name_faults s.allowed.table_names (row_table_faults s.items)
leaf_faults s (TableNameOf t) = table_name_faults s.allowed.table_names (item_faults t (item_called s.items t))

abbrev pub look_up_given : Lookup → Given
look_up_given Missing = Nothing
look_up_given (One h) = Of h.kind
look_up_given Several = Nothing

abbrev pub param_given : Option Param → Given
param_given None = Nothing
param_given (Some p) = Of p.kind

abbrev pub varying : Given → Typed
varying g = record { given = g; varies = true }

abbrev pub leaf_typed : Scope → Leaf → Typed
leaf_typed s (Number n) = fixed (Of (number_kind n))
leaf_typed s (Text z) = fixed Quoted
leaf_typed s (Date z) = fixed (Of KDay)
leaf_typed s Null = fixed Nothing
leaf_typed s (Truth b) = fixed (Of KTruth)
leaf_typed s (Parameter n) = fixed (param_given (param s.params n))
leaf_typed s (Column c) = varying (look_up_given (look_up s.items c))
leaf_typed s (ColumnOf t c) = varying (look_up_given (look_up_in (item_called s.items t) c))
leaf_typed s TableName = varying (Of KText)
leaf_typed s (TableNameOf t) = varying (Of KText)

-- ---- calls

-- pg_backend_pid(), pg_cancel_backend(n), and what is there but left out; any other name is no function
abbrev pub is_pid : List ℕ → Bool
is_pid f = bytes_eq f (codes "pg_backend_pid")

abbrev pub is_cancel : List ℕ → Bool
is_cancel f = bytes_eq f (codes "pg_cancel_backend")

abbrev pub is_aggregate : List ℕ → Bool
is_aggregate f = if bytes_eq f (codes "count") then true else if bytes_eq f (codes "sum") then true else if bytes_eq f (codes "min") then true else bytes_eq f (codes "max")

abbrev pub is_session_function : List ℕ → Bool
is_session_function f = if is_pid f then true else is_cancel f

-- one integer, or null or a string that is read as one
abbrev pub is_session_number : Given → Bool
is_session_number (Of KInt4) = true
is_session_number Quoted = true
is_session_number Nothing = true
is_session_number _ = false

-- the kinds of the arguments suit the function of a session
abbrev pub suit : List ℕ → List Typed → Bool
suit f [] = is_pid f
suit f (x ∷ []) = if is_pid f then false else is_session_number x.given
suit f (x ∷ y ∷ xs) = false

abbrev pub session_call_faults : Bool → List ℕ → List Typed → List Fault
session_call_faults false f xs = left_out f ∷ []
session_call_faults true f xs = if suit f xs then [] else no_function f ∷ []

abbrev pub call_faults : Allowed → List ℕ → List Typed → List Fault
call_faults allowed f xs =
    if is_session_function f then session_call_faults allowed.calls f xs else if is_aggregate f then left_out f ∷ [] else no_function f ∷ []

abbrev pub call_typed : List ℕ → Typed
call_typed f = if is_pid f then fixed (Of KInt4) else varying (Of KTruth)

-- ---- operands

-- a minus before an operand is 0 less the operand
abbrev pub zero_typed : Typed
zero_typed = fixed (Of KInt4)

abbrev pub typed : Scope → Tree → Typed
typed s (leaf l) = leaf_typed s l
typed s (call f ts) = call_typed f
typed s (call_of_all f) = fixed Nothing
typed s (negated e) = joined op.Subtract zero_typed (typed s e)
typed s (binary o x y) = joined o (typed s x) (typed s y)
typed s (in_list b x ts) = fixed Nothing
typed s (between b x y z) = fixed Nothing
typed s (is_null b x) = fixed Nothing
typed s (inverted e) = fixed Nothing
typed s (all_of ts) = fixed Nothing
typed s (any_of ts) = fixed Nothing

abbrev pub all_typed : Scope → Trees → List Typed
all_typed s no_more = []
all_typed s (and_more t ts) = typed s t ∷ all_typed s ts

-- count(*) is left out, and no other function takes a star
abbrev pub star_faults : List ℕ → List Fault
star_faults f = if bytes_eq f (codes "count") then left_out f ∷ [] else no_function f ∷ []

abbrev mutual
  pub operand_faults : Scope → Tree → List Fault
  operand_faults s (leaf l) = leaf_faults s l
  operand_faults s (call f ts) = operands_faults s ts ++ call_faults s.allowed f (all_typed s ts)
  operand_faults s (call_of_all f) = star_faults f
  operand_faults s (negated e) = operand_faults s e ++ join_faults s.allowed op.Subtract zero_typed (typed s e)
  operand_faults s (binary o x y) = operand_faults s x ++ (operand_faults s y ++ join_faults s.allowed o (typed s x) (typed s y))
  operand_faults s (in_list b x ts) = operand_faults s x ++ (operands_faults s ts ++ left_out (codes "IN") ∷ [])
  operand_faults s (between b x y z) = operand_faults s x ++ (operand_faults s y ++ (operand_faults s z ++ left_out (codes "BETWEEN") ∷ []))
  operand_faults s (is_null b x) = operand_faults s x ++ left_out (codes "IS") ∷ []
  operand_faults s (inverted e) = operand_faults s e ++ left_out (codes "NOT") ∷ []
  operand_faults s (all_of ts) = operands_faults s ts ++ left_out (codes "AND") ∷ []
  operand_faults s (any_of ts) = operands_faults s ts ++ left_out (codes "OR") ∷ []

  pub operands_faults : Scope → Trees → List Fault
  operands_faults s no_more = []
  operands_faults s (and_more t ts) = operand_faults s t ++ operands_faults s ts

-- the faults of its parts, and those of the whole where the parts have none
abbrev pub inner_faults : Scope → Tree → List Fault
inner_faults s (leaf l) = []
inner_faults s (call f ts) = operands_faults s ts
inner_faults s (call_of_all f) = []
inner_faults s (negated e) = operand_faults s e
inner_faults s (binary o x y) = operand_faults s x ++ operand_faults s y
inner_faults s (in_list b x ts) = operand_faults s x ++ operands_faults s ts
inner_faults s (between b x y z) = operand_faults s x ++ (operand_faults s y ++ operand_faults s z)
inner_faults s (is_null b x) = operand_faults s x
inner_faults s (inverted e) = operand_faults s e
inner_faults s (all_of ts) = operands_faults s ts
inner_faults s (any_of ts) = operands_faults s ts

abbrev pub own_faults : Scope → Tree → List Fault
own_faults s (leaf l) = leaf_faults s l
own_faults s (call f ts) = call_faults s.allowed f (all_typed s ts)
own_faults s (call_of_all f) = star_faults f
own_faults s (negated e) = join_faults s.allowed op.Subtract zero_typed (typed s e)
own_faults s (binary o x y) = join_faults s.allowed o (typed s x) (typed s y)
own_faults s (in_list b x ts) = left_out (codes "IN") ∷ []
own_faults s (between b x y z) = left_out (codes "BETWEEN") ∷ []
own_faults s (is_null b x) = left_out (codes "IS") ∷ []
own_faults s (inverted e) = left_out (codes "NOT") ∷ []
own_faults s (all_of ts) = left_out (codes "AND") ∷ []
own_faults s (any_of ts) = left_out (codes "OR") ∷ []
