-- What a statement asks for with the values of its parameters in their places; a custom plan is made of it (PREPARE, Notes).
use Rattle.std.specs.Prelude.{ℕ, List, Option, Some, None, Result, Ok, Err, map}
use Rattle.pg_values.specs.declared.fault.Fault.{Fault}
use Rattle.pg_values.specs.declared.value.Value.{Value}
use Rattle.cond_logic.specs.Asked.{ChangeMeant, SelectMeant}
use Rattle.cond_logic.specs.Rewriting.{with_args}
use Rattle.cond_logic.specs.Trees.{CondTree}
use Rattle.sql_ast.specs.Expressions.{Tree}
use Rattle.sql_ast.specs.Queries.{SelectTree, Setting}
use Rattle.expression_binder.specs.Scopes.{Item}
use Rattle.expression_binder.specs.declared.scope.Param.{Param}
use Rattle.sql_binder.specs.Changes.{bound_change}
use Rattle.sql_binder.specs.Selects.{bound_select}

abbrev pub param_value : Param → Value
param_value p = p.value

abbrev pub values_of : List Param → List Value
values_of = map param_value

-- ---- in what is asked for: elsewhere than in conditions a parameter is its value already

abbrev pub with_values : List Value → SelectMeant → SelectMeant
with_values vs m = record { outputs = m.outputs; conditions = map (with_args vs) m.conditions; order = m.order; limit = m.limit; offset = m.offset }

abbrev pub condition_with : List Value → Option CondTree → Option CondTree
condition_with vs None = None
condition_with vs (Some t) = Some (with_args vs t)

abbrev pub change_with_values : List Value → ChangeMeant → ChangeMeant
change_with_values vs m = record { settings = m.settings; condition = condition_with vs m.condition }

-- ---- in what is bound

-- a fault stays what it is
abbrev pub if_bound : {T U : Type 0} → (T → U) → Result T Fault → Result U Fault
if_bound f (Ok m) = Ok (f m)
if_bound f (Err e) = Err e

abbrev pub custom_select : List Item → List Param → ℕ → SelectTree → Result SelectMeant Fault
custom_select items params session t = if_bound (with_values (values_of params)) (bound_select items params session t)

abbrev pub custom_change : Item → List Param → ℕ → List Setting → Option Tree → Result ChangeMeant Fault
custom_change item params session settings cond = if_bound (change_with_values (values_of params)) (bound_change item params session settings cond)
