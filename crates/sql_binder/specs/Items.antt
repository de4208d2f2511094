-- The items of a SELECT (7.3 Select Lists): their faults, and the output columns that they make.
use Rattle.std.specs.Prelude.{ℕ, ◌+◌, Bool, true, false, List, [], ◌∷◌, ◌++◌, Option, Some, None, map, codes, Result, Ok, Err}
use Rattle.pg_values.specs.declared.fault.Fault.{Fault}
use Rattle.pg_values.specs.declared.value.Kind.{Kind}
use Rattle.refusals.specs.Refusals.{left_out}
use Rattle.sql_ast.specs.declared.leaf.Leaf.{Leaf}
use Rattle.sql_ast.specs.declared.leaf.Leaf.TheVariants.{Column, ColumnOf, TableName, TableNameOf}
use Rattle.sql_ast.specs.Expressions.{Tree, leaf, call, call_of_all}
use Rattle.sql_ast.specs.Queries.{Item as Listed, all_columns, columns_of, one_column}
use Rattle.cond_logic.specs.Scalars.{ScalarTree, column}
use Rattle.expression_binder.specs.declared.scope.Allowed.{Allowed}
use Rattle.expression_binder.specs.declared.scope.ScopeColumn.{ScopeColumn}
use Rattle.expression_binder.specs.Constants.{scalar}
use Rattle.expression_binder.specs.Firsts.{fault_in}
use Rattle.expression_binder.specs.Kinds.{kind_alone}
use Rattle.expression_binder.specs.Operands.{operand_faults, typed, item_faults}
use Rattle.expression_binder.specs.Scopes.{Item, Scope, item_called}
use Rattle.cond_logic.specs.Asked.{OutputTree}

-- calls stand in a SELECT without FROM alone
abbrev pub has_none : List Item → Bool
has_none [] = true
has_none (i ∷ is) = false

abbrev pub in_a_select_list : List Item → Allowed
in_a_select_list items = record { arithmetic = true; table_names = true; calls = has_none items }

abbrev pub star_faults : List Item → List Fault
star_faults [] = left_out (codes "*") ∷ []
star_faults (i ∷ is) = []

abbrev pub listed_faults : Scope → Listed → List Fault
listed_faults s all_columns = star_faults s.items
listed_faults s (columns_of t) = item_faults t (item_called s.items t)
listed_faults s (one_column o) = operand_faults s o.0

abbrev pub list_faults : Scope → List Listed → List Fault
list_faults s [] = []
list_faults s (l ∷ ls) = listed_faults s l ++ list_faults s ls

-- ---- output columns

-- the columns of an item, from a place on
abbrev pub columns_from : Item → ℕ → List ScopeColumn → List OutputTree
columns_from item place [] = []
columns_from item place (c ∷ cs) = record { name = c.name; kind = c.kind; value = column (record { item = item.number; position = place }) } ∷ columns_from item (place + 1) cs

abbrev pub item_outputs : Item → List OutputTree
item_outputs item = columns_from item 0 item.columns

abbrev pub all_outputs : List Item → List OutputTree
all_outputs [] = []
all_outputs (i ∷ is) = item_outputs i ++ all_outputs is

abbrev pub outputs_of : Option Item → List OutputTree
outputs_of None = []
outputs_of (Some item) = item_outputs item

-- a column without an alias goes by its own name, a call by its function's
abbrev pub leaf_name : Leaf → List ℕ
leaf_name (Column c) = c
leaf_name (ColumnOf t c) = c
leaf_name TableName = codes "tableoid"
leaf_name (TableNameOf t) = codes "tableoid"
leaf_name _ = codes "?column?"

abbrev pub own_name : Tree → List ℕ
own_name (leaf l) = leaf_name l
own_name (call f ts) = f
own_name (call_of_all f) = f
own_name _ = codes "?column?"

abbrev pub output_name : Tree → Option (List ℕ) → List ℕ
output_name t None = own_name t
output_name t (Some alias) = alias

-- an output column as ORDER BY finds it: its name, and the expression that it gives
pub record HeadingView : Type 0 where
  pub name : List ℕ
  pub value : Tree

abbrev pub column_heading : (table : List ℕ) → ScopeColumn → HeadingView
column_heading table c = record { name = c.name; value = leaf (ColumnOf table c.name) }

abbrev pub column_headings : (table : List ℕ) → List ScopeColumn → List HeadingView
column_headings table [] = []
column_headings table (c ∷ cs) = column_heading table c ∷ column_headings table cs

abbrev pub item_headings : Item → List HeadingView
item_headings item = column_headings item.name item.columns

abbrev pub all_headings : List Item → List HeadingView
all_headings [] = []
all_headings (i ∷ is) = item_headings i ++ all_headings is

abbrev pub headings_of : Option Item → List HeadingView
headings_of None = []
headings_of (Some item) = item_headings item

abbrev pub listed_headings : List Item → Listed → List HeadingView
listed_headings items all_columns = all_headings items
listed_headings items (columns_of t) = headings_of (item_called items t)
listed_headings items (one_column o) = record { name = output_name o.0 o.1; value = o.0 } ∷ []

abbrev pub list_headings : List Item → List Listed → List HeadingView
list_headings items [] = []
list_headings items (l ∷ ls) = listed_headings items l ++ list_headings items ls

abbrev pub output_scalar : Scope → Tree → Result ScalarTree Fault
output_scalar s t = scalar s (kind_alone (typed s t).given) t

abbrev pub made_output : List ℕ → Kind → Result ScalarTree Fault → List OutputTree
made_output name kind (Ok x) = record { name = name; kind = kind; value = x } ∷ []
made_output name kind (Err f) = []

abbrev pub listed_constants : Scope → Listed → List Fault
listed_constants s all_columns = []
listed_constants s (columns_of t) = []
listed_constants s (one_column o) = fault_in (output_scalar s o.0)

abbrev pub list_constants : Scope → List Listed → List Fault
list_constants s [] = []
list_constants s (l ∷ ls) = listed_constants s l ++ list_constants s ls

abbrev pub listed_outputs : Scope → Listed → List OutputTree
listed_outputs s all_columns = all_outputs s.items
listed_outputs s (columns_of t) = outputs_of (item_called s.items t)
listed_outputs s (one_column o) = made_output (output_name o.0 o.1) (kind_alone (typed s o.0).given) (output_scalar s o.0)

abbrev pub list_outputs : Scope → List Listed → List OutputTree
list_outputs s [] = []
list_outputs s (l ∷ ls) = listed_outputs s l ++ list_outputs s ls
