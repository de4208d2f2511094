-- What names stand for at a place of a statement (4.2.1 Column References, 7.2.1.2 Table and Column Aliases).
use Rattle.std.specs.Prelude.{ℕ, ◌-◌, Bool, false, ◌==◌, if◌then◌else◌, List, [], ◌∷◌, Option, Some, None, position, slice_get, slice_index_or, map}
use Rattle.std.specs.Str.{bytes_eq}
use Rattle.pg_values.specs.declared.value.Kind.TheVariants.{Text as KText}
use Rattle.expression_binder.specs.declared.scope.ScopeColumn.{ScopeColumn}
use Rattle.expression_binder.specs.declared.scope.Param.{Param}
use Rattle.expression_binder.specs.declared.scope.Allowed.{Allowed}
use Rattle.expression_binder.specs.declared.naming.Hit.{Hit}
use Rattle.expression_binder.specs.declared.naming.Lookup.{Lookup}
use Rattle.expression_binder.specs.declared.naming.Lookup.TheVariants.{Missing, One, Several}

-- a FROM item
pub record Item : Type 0 where
  pub name : List ℕ
  pub number : ℕ
  pub columns : List ScopeColumn

-- the items that may be named, the parameters, the session's number, and what may stand in an operand
pub record Scope : Type 0 where
  pub items : List Item
  pub params : List Param
  pub session : ℕ
  pub allowed : Allowed

-- a condition has neither arithmetic over columns nor names of tables nor calls
abbrev pub nothing_more : Allowed
nothing_more = record { arithmetic = false; table_names = false; calls = false }

abbrev pub condition_scope : List Item → List Param → ℕ → Scope
condition_scope items params session = record { items = items; params = params; session = session; allowed = nothing_more }

abbrev pub is_called : List ℕ → ScopeColumn → Bool
is_called name c = bytes_eq c.name name

-- the column of the item at that place
abbrev pub hit_at : Item → Option ℕ → Option Hit
hit_at item None = None
hit_at item (Some place) = Some (record { column = record { item = item.number; position = place }; kind = slice_index_or (map (λ c. c.kind) item.columns) place KText })

abbrev pub hit_in : Item → List ℕ → Option Hit
hit_in item name = hit_at item (position (is_called name) item.columns)

-- one more place for a name: two are too many
abbrev pub with_hit : Option Hit → Lookup → Lookup
with_hit None found = found
with_hit (Some h) Missing = One h
with_hit (Some h) (One other) = Several
with_hit (Some h) Several = Several

-- the columns of that name among the items
abbrev pub look_up : List Item → List ℕ → Lookup
look_up [] name = Missing
look_up (item ∷ items) name = with_hit (hit_in item name) (look_up items name)

-- the item of that name
abbrev pub item_called : List Item → List ℕ → Option Item
item_called [] name = None
item_called (item ∷ items) name = if bytes_eq item.name name then Some item else item_called items name

abbrev pub found_by : Option Hit → Lookup
found_by h = with_hit h Missing

-- the column of that name in one item
abbrev pub look_up_in : Option Item → List ℕ → Lookup
look_up_in None name = Missing
look_up_in (Some item) name = found_by (hit_in item name)

-- $1 is the first parameter; $0 is none
abbrev pub param : List Param → ℕ → Option Param
param params n = if n == 0 then None else slice_get params (n - 1)
