-- What an UPDATE or a DELETE has before it looks at rows: its table and those that it needs below it, locked, and what is asked of the rows
-- (the manual, UPDATE; DELETE; 13.3.1 Table-Level Locks).
use Rattle.std.specs.Prelude.{ℕ, if◌then◌else◌, List, [], Option, None, Result, map}
use Rattle.pg_values.specs.declared.fault.Fault.{Fault}
use Rattle.pg_values.specs.declared.ids.TableNo.{TableNo}
use Rattle.pg_values.specs.declared.value.Value.{Value}
use Rattle.pg_values.specs.declared.lock_mode.LockMode.TheVariants.{RowExclusive}
use Rattle.history.specs.declared.catalogue.Column.{Column}
use Rattle.history.specs.History.{History}
use Rattle.row_router.specs.declared.path_part.PathPart.{PathPart}
use Rattle.row_router.specs.Histories.{tree_of, path_of, table_of}
use Rattle.row_router.specs.Trees.{TableTree}
use Rattle.part_catalog.specs.Found.{made_at}
use Rattle.sql_ast.specs.Expressions.{Tree}
use Rattle.sql_ast.specs.Queries.{Setting, maybe_tree, setting}
use Rattle.sql_ast.specs.declared.named_table.NamedTable.{NamedTable}
use Rattle.sql_binder.specs.From.{item_name}
use Rattle.expression_binder.specs.Scopes.{Item}
use Rattle.expression_binder.specs.declared.scope.Param.{Param}
use Rattle.cond_logic.specs.Asked.{ChangeMeant}
use Rattle.sql_binder.specs.Changes.{bound_change}
use Rattle.sql_binder.specs.Values.{change_with_values, custom_change, values_of}
use Rattle.stores.specs.Events.{look_of}
use Rattle.statement_steps.specs.Made.{Made, made, answered}
use Rattle.statement_steps.specs.declared.caller.Caller.{Caller}
use Rattle.statement_steps.specs.Asks.{named, all_locked}
use Rattle.statement_steps.specs.Gathered.{Found}
use Rattle.statement_steps.specs.Steps.{follow}
use Rattle.plan_tree.specs.Plans.{apart}
use Rattle.plan_tree.specs.declared.planning.Planning.{Planning}
use Rattle.statement_steps.specs.Below.{number_of}
use Rattle.statement_steps.specs.Scopes.{scope_column}
use Rattle.change_statement.specs.Kept.{keeps_for, keeps_started, leaves_read, moves, tables_locked}
use Rattle.change_statement.specs.declared.asking.Change.{Change}
use Rattle.change_statement.specs.declared.asking.Change.TheVariants.{Update, Delete}

-- ---- the statement

abbrev pub table_named : Change → NamedTable
table_named (Update u) = u.now.table
table_named (Delete d) = d.now.table

abbrev pub settings_of : Change → List Setting
settings_of (Update u) = map setting u.now.assignments
settings_of (Delete d) = []

abbrev pub condition_of : Change → Option Tree
condition_of (Update u) = maybe_tree u.now.condition
condition_of (Delete d) = maybe_tree d.now.condition

-- ---- what is gathered

-- a custom plan has the values of parameters in its condition; a generic one is started with them
abbrev pub asked_by : Planning → Item → List Param → (session : ℕ) → List Setting → Option Tree → Result ChangeMeant Fault
asked_by how item params s settings condition = if how.is_generic then bound_change item params s settings condition else custom_change item params s settings condition

abbrev pub asked_with : Planning → (args : List Value) → ChangeMeant → ChangeMeant
asked_with how args m = if how.is_generic then change_with_values args m else m

abbrev pub found_by : Planning → (args : List Value) → TableNo → TableTree → List PathPart → ChangeMeant → Found
found_by how args table tree path m = record {
  table = table;
  tree = tree;
  path = path;
  asked = asked_with how args m;
  leaves = leaves_read (keeps_started how args m.condition) tree;
  moves = moves (keeps_for how.prunes m.condition) m.settings tree;
}

-- the table, under the name that it goes by
abbrev pub item_of : NamedTable → List Column → Item
item_of table columns = record { name = item_name (table, None); number = 0; columns = map scope_column columns }

-- names and kinds are bound, and constants evaluated
abbrev pub meant : Planning → List Param → Caller → NamedTable → (settings : List Setting) → (condition : Option Tree) → (table : ℕ) → History → Made ChangeMeant
meant how params c table settings condition t h = answered (asked_by how (item_of table (made_at h t).columns) params c.session settings condition)

-- these tables are locked, one after the other
abbrev pub locked_all : List (List ℕ) → Caller → List TableNo → History → Made (Unit {0})
locked_all names c tables = all_locked names c.session RowExclusive (map number_of tables)

-- of the tables under the named one those are locked that lead to a leaf which the condition keeps, and those of such
-- leaves; all where a row may move from these to others
abbrev pub locked : Planning → List (List ℕ) → Caller → (args : List Value) → (table : ℕ) → TableTree → List PathPart → ChangeMeant → History → Made Found
locked how names c args t tree path m =
    follow (locked_all names c (tables_locked (keeps_for how.prunes m.condition) m.settings tree)) (λ u h. made [] (found_by how args (table_of t) tree path m))

abbrev pub over : Planning → List (List ℕ) → List Param → Caller → NamedTable → List Setting → Option Tree → (table : ℕ) → TableTree → List PathPart → History → Made Found
over how names params c table settings condition t tree path = follow (meant how params c table settings condition t) (locked how names c (values_of (apart how params)) t tree path)

-- of the table of that number: its tree is that of the command's snapshot
abbrev pub of_table : Planning → List (List ℕ) → List Param → Caller → NamedTable → List Setting → Option Tree → (table : ℕ) → History → Made Found
of_table how names params c table settings condition t h =
    over how names params c table settings condition t (tree_of h c.session t (look_of h c.session c.cmd)) (path_of h c.session t) h

-- the named table is found and locked first
abbrev pub gathered : Planning → List (List ℕ) → List Param → Caller → NamedTable → List Setting → Option Tree → History → Made Found
gathered how names params c table settings condition = follow (named names c.session RowExclusive table.name) (of_table how names params c table settings condition)

-- what the statement asks for
abbrev pub gathered_for : Planning → List (List ℕ) → List Param → Caller → Change → History → Made Found
gathered_for how names params c change = gathered how names params c (table_named change) (settings_of change) (condition_of change)
