-- An UPDATE or a DELETE by places and values, or its first fault (UPDATE, DELETE).
use Rattle.std.specs.Prelude.{ℕ, true, false, List, [], ◌∷◌, ◌++◌, Option, Some, None, Result, Ok, Err}
use Rattle.std.specs.List.{list_any}
use Rattle.std.specs.Str.{bytes_eq}
use Rattle.pg_values.specs.declared.fault.Fault.{Fault}
use Rattle.pg_values.specs.declared.value.Kind.{Kind}
use Rattle.pg_values.specs.declared.value.Value.{Value}
use Rattle.sql_ast.specs.Expressions.{Tree}
use Rattle.sql_ast.specs.Queries.{Setting as Written}
use Rattle.cond_logic.specs.Scalars.{ScalarTree, literal}
use Rattle.cond_logic.specs.Trees.{CondTree}
use Rattle.expression_binder.specs.declared.scope.Allowed.{Allowed}
use Rattle.expression_binder.specs.declared.scope.Param.{Param}
use Rattle.expression_binder.specs.Conditions.{cond_faults}
use Rattle.expression_binder.specs.Constants.{scalar, as_literal, stored}
use Rattle.expression_binder.specs.Firsts.{or_first, fault_in}
use Rattle.expression_binder.specs.Kinds.{assigned_faults}
use Rattle.expression_binder.specs.Meanings as meanings
use Rattle.expression_binder.specs.Operands.{operand_faults, typed}
use Rattle.expression_binder.specs.Scopes.{Item, Scope, condition_scope}
use Rattle.sql_binder.specs.Inserts.{place_of, place_or, target_faults, kind_at}
use Rattle.cond_logic.specs.Asked.{SettingMeant, ChangeMeant}

abbrev pub column_set : Written → List ℕ
column_set w = w.0

-- arithmetic over columns stands in SET
abbrev pub in_set : Allowed
in_set = record { arithmetic = true; table_names = false; calls = false }

abbrev pub set_scope : Item → List Param → ℕ → Scope
set_scope item params session = record { items = item ∷ []; params = params; session = session; allowed = in_set }

abbrev pub set_kind : Item → List ℕ → Kind
set_kind item name = kind_at item.columns (place_or (place_of item.columns name))

abbrev pub setting_faults : Item → Scope → (earlier : List (List ℕ)) → Written → List Fault
setting_faults item s earlier w =
    target_faults (list_any (bytes_eq w.0) earlier) w.0 (place_of item.columns w.0) ++ (operand_faults s w.1 ++ assigned_faults (set_kind item w.0) (typed s w.1).given)

abbrev pub settings_faults : Item → Scope → (earlier : List (List ℕ)) → List Written → List Fault
settings_faults item s earlier [] = []
settings_faults item s earlier (w ∷ ws) = setting_faults item s earlier w ++ settings_faults item s (earlier ++ w.0 ∷ []) ws

abbrev pub literal_of : Result Value Fault → Result ScalarTree Fault
literal_of (Ok v) = Ok (literal v)
literal_of (Err f) = Err f

-- a constant is stored at once, anything else for each row
abbrev pub stored_as : Kind → ScalarTree → Option Value → Result ScalarTree Fault
stored_as k x None = Ok x
stored_as k x (Some v) = literal_of (stored k (Ok v))

abbrev pub stored_scalar : Kind → Result ScalarTree Fault → Result ScalarTree Fault
stored_scalar k (Err f) = Err f
stored_scalar k (Ok x) = stored_as k x (as_literal x)

abbrev pub new_value : Item → Scope → Written → Result ScalarTree Fault
new_value item s w = stored_scalar (set_kind item w.0) (scalar s (set_kind item w.0) w.1)

abbrev pub settings_constants : Item → Scope → List Written → List Fault
settings_constants item s [] = []
settings_constants item s (w ∷ ws) = fault_in (new_value item s w) ++ settings_constants item s ws

abbrev pub meant_if : ℕ → Result ScalarTree Fault → List SettingMeant
meant_if place (Ok x) = record { column = place; value = x } ∷ []
meant_if place (Err f) = []

abbrev pub settings_meant : Item → Scope → List Written → List SettingMeant
settings_meant item s [] = []
settings_meant item s (w ∷ ws) = meant_if (place_or (place_of item.columns w.0)) (new_value item s w) ++ settings_meant item s ws

-- ---- WHERE

abbrev pub where_faults : Scope → Option Tree → List Fault
where_faults s None = []
where_faults s (Some t) = cond_faults s t

abbrev pub where_constants : Scope → Option Tree → List Fault
where_constants s None = []
where_constants s (Some t) = meanings.constant_faults s t

abbrev pub where_meaning : Scope → Option Tree → Option CondTree
where_meaning s None = None
where_meaning s (Some t) = Some (meanings.meaning s t)

-- ---- the statements

abbrev pub where_scope : Item → List Param → ℕ → Scope
where_scope item params session = condition_scope (item ∷ []) params session

abbrev pub change_faults : Item → List Param → ℕ → List Written → Option Tree → List Fault
change_faults item params session ws cond =
    (settings_faults item (set_scope item params session) [] ws ++ where_faults (where_scope item params session) cond)
    ++ (settings_constants item (set_scope item params session) ws ++ where_constants (where_scope item params session) cond)

-- a DELETE is one without settings
abbrev pub bound_change : Item → List Param → ℕ → List Written → Option Tree → Result ChangeMeant Fault
bound_change item params session ws cond =
    or_first (change_faults item params session ws cond)
    (record { settings = settings_meant item (set_scope item params session) ws; condition = where_meaning (where_scope item params session) cond })
