-- The places of parameters in a statement, in the order of its text (PREPARE).
use Rattle.std.specs.Prelude.{ℕ, ◌+◌, List, [], ◌∷◌, ◌++◌, Option, Some, None, map, take, drop}
use Rattle.pg_values.specs.declared.value.Kind.{Kind}
use Rattle.pg_values.specs.declared.value.Kind.TheVariants.{Int8 as KInt8}
use Rattle.sql_ast.specs.Expressions.{Tree, Trees, no_more, and_more}
use Rattle.sql_ast.specs.Queries.{Item as Listed, all_columns, columns_of, one_column, Joined, Key, Setting, SelectTree, selected, RowTree, selects, inserts, updates, deletes}
use Rattle.expression_binder.specs.declared.scope.ScopeColumn.{ScopeColumn}
use Rattle.expression_binder.specs.declared.typed.Given.{Given}
use Rattle.expression_binder.specs.Scopes.{Item, Scope, condition_scope}
use Rattle.sql_binder.specs.From.{joined_items, start_of}
use Rattle.sql_binder.specs.Inserts.{place_of, kind_at, first_count}
use Rattle.prepared_statements.specs.ParameterPlaces.{Place, at, places}

-- the items that may be named; what parameters are is said by their kinds
abbrev pub bare : List Item → Scope
bare items = condition_scope items [] 0

-- ---- SELECT

abbrev pub listed_places : Scope → List Given → Listed → List Place
listed_places s gs all_columns = []
listed_places s gs (columns_of t) = []
listed_places s gs (one_column o) = places s gs o.0

abbrev pub list_places : Scope → List Given → List Listed → List Place
list_places s gs [] = []
list_places s gs (l ∷ ls) = listed_places s gs l ++ list_places s gs ls

-- the condition of ON, with the items that it may name
abbrev pub on_place : List Item → List Given → (start place : ℕ) → Option Tree → List Place
on_place items gs start place None = []
on_place items gs start place (Some t) = places (bare (joined_items items start place)) gs t

abbrev pub on_places : List Item → List Given → (start place : ℕ) → List Joined → List Place
on_places items gs start place [] = []
on_places items gs start place (j ∷ js) = on_place items gs start place j.1 ++ on_places items gs (start_of start place j.1) (place + 1) js

abbrev pub where_places : Scope → List Given → Option Tree → List Place
where_places s gs None = []
where_places s gs (Some t) = places s gs t

abbrev pub keys_places : Scope → List Given → List Key → List Place
keys_places s gs [] = []
keys_places s gs (k ∷ ks) = places s gs k.0 ++ keys_places s gs ks

-- a number of rows is a bigint
abbrev pub count_places : List Given → Option Tree → List Place
count_places gs None = []
count_places gs (Some t) = at (Some KInt8) t ++ places (bare []) gs t

abbrev pub select_places : List Item → List Given → SelectTree → List Place
select_places items gs (selected ls from cond keys limit offset) =
    list_places (bare items) gs ls
    ++ (on_places items gs 0 0 from
    ++ (where_places (bare items) gs cond
    ++ (keys_places (bare items) gs keys
    ++ (count_places gs limit ++ count_places gs offset))))

-- ---- INSERT

abbrev pub column_kind : ScopeColumn → Option Kind
column_kind c = Some c.kind

abbrev pub kind_found : List ScopeColumn → Option ℕ → Option Kind
kind_found columns None = None
kind_found columns (Some place) = Some (kind_at columns place)

abbrev pub kind_named : List ScopeColumn → List ℕ → Option Kind
kind_named columns name = kind_found columns (place_of columns name)

-- a value at a place of its column's kind, where there is a column for it
abbrev pub value_place : List Given → Option Kind → Tree → List Place
value_place gs k t = at k t ++ places (bare []) gs t

abbrev pub first_kind : List (Option Kind) → Option Kind
first_kind [] = None
first_kind (k ∷ ks) = k

abbrev pub value_places : List Given → List (Option Kind) → Trees → List Place
value_places gs ks no_more = []
value_places gs ks (and_more t ts) = value_place gs (first_kind ks) t ++ value_places gs (drop 1 ks) ts

abbrev pub row_places : List Given → List (Option Kind) → List Trees → List Place
row_places gs ks [] = []
row_places gs ks (r ∷ rs) = value_places gs ks r ++ row_places gs ks rs

-- without a list of columns they are the table's first ones, as many as the first row has values
abbrev pub kinds_wanted : List ScopeColumn → Option (List (List ℕ)) → List Trees → List (Option Kind)
kinds_wanted columns None rows = map column_kind (take (first_count rows) columns)
kinds_wanted columns (Some names) rows = map (kind_named columns) names

abbrev pub insert_places : List ScopeColumn → List Given → Option (List (List ℕ)) → List Trees → List Place
insert_places columns gs names rows = row_places gs (kinds_wanted columns names rows) rows

-- ---- UPDATE, and DELETE, which has no settings

abbrev pub setting_places : Item → List Given → Setting → List Place
setting_places item gs w = at (kind_named item.columns w.0) w.1 ++ places (bare (item ∷ [])) gs w.1

abbrev pub settings_places : Item → List Given → List Setting → List Place
settings_places item gs [] = []
settings_places item gs (w ∷ ws) = setting_places item gs w ++ settings_places item gs ws

abbrev pub change_places : Item → List Given → List Setting → Option Tree → List Place
change_places item gs ws cond = settings_places item gs ws ++ where_places (bare (item ∷ [])) gs cond

-- ---- any of them; the tables of a SELECT are its FROM items, and any other statement has one

abbrev pub statement_places : List Item → List Given → RowTree → List Place
statement_places tables gs (selects s) = select_places tables gs s
statement_places [] gs (inserts t names rows) = []
statement_places (i ∷ is) gs (inserts t names rows) = insert_places i.columns gs names rows
statement_places [] gs (updates t ws cond) = []
statement_places (i ∷ is) gs (updates t ws cond) = change_places i gs ws cond
statement_places [] gs (deletes t cond) = []
statement_places (i ∷ is) gs (deletes t cond) = change_places i gs [] cond
