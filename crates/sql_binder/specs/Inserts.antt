-- An INSERT by places and values, or its first fault (INSERT).
use Rattle.std.specs.Prelude.{ℕ, ◌+◌, min, Bool, if◌then◌else◌, zero, suc, List, [], ◌∷◌, ◌++◌, Option, Some, None, map, length, position, slice_index_or, Result, Ok, Err}
use Rattle.std.specs.List.{list_any}
use Rattle.std.specs.Str.{bytes_eq}
use Rattle.pg_values.specs.declared.fault.Fault.{Fault}
use Rattle.pg_values.specs.declared.value.Kind.{Kind}
use Rattle.pg_values.specs.declared.value.Kind.TheVariants.{Text as KText}
use Rattle.pg_values.specs.declared.value.Value.{Value}
use Rattle.refusals.specs.Refusals.{no_column, set_twice}
use Rattle.sql_ast.specs.Expressions.{Tree, Trees, no_more, and_more}
use Rattle.expression_binder.specs.declared.scope.Param.{Param}
use Rattle.expression_binder.specs.declared.scope.ScopeColumn.{ScopeColumn}
use Rattle.expression_binder.specs.Constants.{constant, stored}
use Rattle.expression_binder.specs.Firsts.{or_first, fault_in}
use Rattle.expression_binder.specs.Kinds.{assigned_faults, count_faults}
use Rattle.expression_binder.specs.Operands.{operand_faults, typed}
use Rattle.expression_binder.specs.Scopes.{Scope, condition_scope, is_called}
use Rattle.cond_logic.specs.Asked.{InsertMeant}

-- ---- columns

abbrev pub place_of : List ScopeColumn → List ℕ → Option ℕ
place_of columns name = position (is_called name) columns

-- a column that is there, and none of those before
abbrev pub target_faults : (is_set : Bool) → List ℕ → Option ℕ → List Fault
target_faults is_set name None = no_column name ∷ []
target_faults is_set name (Some place) = if is_set then set_twice name ∷ [] else []

abbrev pub column_faults : List ScopeColumn → (earlier names : List (List ℕ)) → List Fault
column_faults columns earlier [] = []
column_faults columns earlier (n ∷ ns) = target_faults (list_any (bytes_eq n) earlier) n (place_of columns n) ++ column_faults columns (earlier ++ n ∷ []) ns

abbrev pub place_or : Option ℕ → ℕ
place_or None = 0
place_or (Some place) = place

abbrev pub places_of : List ScopeColumn → List (List ℕ) → List ℕ
places_of columns [] = []
places_of columns (n ∷ ns) = place_or (place_of columns n) ∷ places_of columns ns

abbrev pub from_to : (place count : ℕ) → List ℕ
from_to place zero = []
from_to place (suc n) = place ∷ from_to (place + 1) n

-- ---- rows

-- a value, of the kind of its column where there is one for it
abbrev pub value_faults : Scope → List Kind → Trees → List Fault
value_faults s kinds no_more = []
value_faults s [] (and_more t ts) = operand_faults s t ++ value_faults s [] ts
value_faults s (k ∷ ks) (and_more t ts) = (operand_faults s t ++ assigned_faults k (typed s t).given) ++ value_faults s ks ts

abbrev pub count_of : Trees → ℕ
count_of no_more = 0
count_of (and_more t ts) = count_of ts + 1

-- each row has as many values as there are columns for them
abbrev pub row_faults : Scope → List Kind → (wanted : ℕ) → List Trees → List Fault
row_faults s kinds wanted [] = []
row_faults s kinds wanted (r ∷ rs) = (value_faults s kinds r ++ count_faults (count_of r) wanted) ++ row_faults s kinds wanted rs

abbrev pub stored_value : Scope → Kind → Tree → Result Value Fault
stored_value s k t = stored k (constant s k t)

abbrev pub value_constants : Scope → List Kind → Trees → List Fault
value_constants s kinds no_more = []
value_constants s [] (and_more t ts) = []
value_constants s (k ∷ ks) (and_more t ts) = fault_in (stored_value s k t) ++ value_constants s ks ts

abbrev pub row_constants : Scope → List Kind → List Trees → List Fault
row_constants s kinds [] = []
row_constants s kinds (r ∷ rs) = value_constants s kinds r ++ row_constants s kinds rs

abbrev pub read_in : Result Value Fault → List Value
read_in (Ok v) = v ∷ []
read_in (Err f) = []

abbrev pub row_values : Scope → List Kind → Trees → List Value
row_values s kinds no_more = []
row_values s [] (and_more t ts) = []
row_values s (k ∷ ks) (and_more t ts) = read_in (stored_value s k t) ++ row_values s ks ts

abbrev pub all_values : Scope → List Kind → List Trees → List (List Value)
all_values s kinds [] = []
all_values s kinds (r ∷ rs) = row_values s kinds r ∷ all_values s kinds rs

-- ---- the statement

abbrev pub first_count : List Trees → ℕ
first_count [] = 0
first_count (r ∷ rs) = count_of r

-- without a list of columns they are the table's first ones, as many as the first row has values
abbrev pub targets : List ScopeColumn → Option (List (List ℕ)) → List Trees → List ℕ
targets columns None rows = from_to 0 (min (first_count rows) (length columns))
targets columns (Some names) rows = places_of columns names

abbrev pub named_faults : List ScopeColumn → Option (List (List ℕ)) → List Fault
named_faults columns None = []
named_faults columns (Some names) = column_faults columns [] names

abbrev pub kind_at : List ScopeColumn → ℕ → Kind
kind_at columns place = slice_index_or (map (λ c. c.kind) columns) place KText

abbrev pub kinds_of : List ScopeColumn → List ℕ → List Kind
kinds_of columns places = map (kind_at columns) places

-- columns have no place in VALUES
abbrev pub value_scope : List Param → ℕ → Scope
value_scope params session = condition_scope [] params session

abbrev pub insert_faults : List ScopeColumn → List Param → ℕ → Option (List (List ℕ)) → List Trees → List Fault
insert_faults columns params session names rows =
    named_faults columns names
    ++ (row_faults (value_scope params session) (kinds_of columns (targets columns names rows)) (length (targets columns names rows)) rows
    ++ row_constants (value_scope params session) (kinds_of columns (targets columns names rows)) rows)

abbrev pub bound_insert : List ScopeColumn → List Param → ℕ → Option (List (List ℕ)) → List Trees → Result InsertMeant Fault
bound_insert columns params session names rows =
    or_first (insert_faults columns params session names rows)
    (record { columns = targets columns names rows; rows = all_values (value_scope params session) (kinds_of columns (targets columns names rows)) rows })
