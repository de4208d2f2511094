-- What an EXECUTE executes: a prepared statement of its session, with the kinds and values of the parameters (the manual,
-- EXECUTE). Its arguments are bound where its attempt begins, before anything is locked.
use Rattle.std.specs.Prelude.{ℕ, ◌+◌, Bool, true, false, nat_lt, if◌then◌else◌, List, [], ◌∷◌, ◌++◌, Option, Some, None, Result, Ok, Err, length, map}
use Rattle.pg_values.specs.declared.fault.Fault.{Fault}
use Rattle.history.specs.History.{History}
use Rattle.part_catalog.specs.Found.{made_at, resolved}
use Rattle.sql_ast.specs.Commands.{CommandTree, deallocates, deallocates_all}
use Rattle.sql_ast.specs.Expressions.{Trees}
use Rattle.sql_ast.specs.Queries.{Joined, row_tree, RowTree, selects, inserts, updates, deletes, QueryTree, prepares}
use Rattle.sql_ast.specs.Statements.{StatementTree, commands, queries}
use Rattle.sql_ast.specs.declared.named_table.NamedTable.{NamedTable}
use Rattle.expression_binder.specs.Scopes.{Item}
use Rattle.expression_binder.specs.declared.scope.Param.{Param}
use Rattle.expression_binder.specs.declared.scope.ScopeColumn.{ScopeColumn}
use Rattle.sql_binder.specs.From.{item_name}
use Rattle.sql_binder.specs.Selects.{from_of}
use Rattle.prepared_statements.specs.Prepared.{Prepared, prepared, found, counted, arguments_of, not_explained, deallocated}
use Rattle.statement_runs.specs.declared.executing.Execution.{Execution as CodeExecution}
use Rattle.statement_steps.specs.Scopes.{scope_column}
use Rattle.statement_steps.specs.declared.rest.Rest.{Rest}
use Rattle.statement_steps.specs.declared.rest.Rest.TheVariants.{Rows, Detach}

-- ---- the tables that a statement names, as the places of its parameters see them

-- the columns of the table of that number; none where no table has the name
abbrev pub columns_at : History → Option ℕ → List ScopeColumn
columns_at h None = []
columns_at h (Some n) = map scope_column (made_at h n).columns

-- what the name means for the session, under the name that it goes by
abbrev pub item_meant : History → (session place : ℕ) → NamedTable → Item
item_meant h s place table = record { name = item_name (table, None); number = place; columns = columns_at h (resolved h s table.name) }

abbrev pub items_meant : History → (session place : ℕ) → List Joined → List Item
items_meant h s place [] = []
items_meant h s place (j ∷ js) = item_meant h s place j.0 ∷ items_meant h s (place + 1) js

-- a SELECT of more than four items is refused whatever they are
abbrev pub from_meant : History → (session : ℕ) → List Joined → List Item
from_meant h s js = if nat_lt 4 (length js) then [] else items_meant h s 0 js

abbrev pub plain_table : List ℕ → NamedTable
plain_table name = record { name = name; alias = None }

abbrev pub tables_meant : History → (session : ℕ) → RowTree → List Item
tables_meant h s (selects t) = from_meant h s (from_of t)
tables_meant h s (inserts table columns values) = item_meant h s 0 (plain_table table) ∷ []
tables_meant h s (updates table settings condition) = item_meant h s 0 table ∷ []
tables_meant h s (deletes table condition) = item_meant h s 0 table ∷ []

-- ---- what is executed

pub record Execution : Type 0 where
  pub statement : RowTree
  pub params : List Param

abbrev pub execution : CodeExecution → Execution
execution e = record { statement = row_tree e.statement.value; params = e.params.items }

-- an UPDATE or a DELETE that waited for a row goes on by what was bound before
abbrev pub is_under_way : Option Rest → Bool
is_under_way None = false
is_under_way (Some (Rows r)) = true
is_under_way (Some (Detach d)) = false

abbrev pub params_if : (under_way : Bool) → Result (List Param) Fault → Result (List Param) Fault
params_if true bound = Ok []
params_if false bound = bound

-- over these tables
abbrev pub params_over : List Item → Option Rest → Prepared → Trees → Result (List Param) Fault
params_over tables rest p ts = params_if (is_under_way rest) (arguments_of tables p ts)

abbrev pub executing : Prepared → Result (List Param) Fault → Result Execution Fault
executing p (Ok params) = Ok (record { statement = p.statement; params = params })
executing p (Err f) = Err f

-- the first fault, if there is one, in place of what comes then
abbrev pub unless_faulty : {T : Type 0} → List Fault → Result T Fault → Result T Fault
unless_faulty [] next = next
unless_faulty (f ∷ fs) next = Err f

abbrev pub executed_of : (Prepared → List Item) → Option Rest → Trees → Result Prepared Fault → Result Execution Fault
executed_of tables rest ts (Ok p) = unless_faulty (counted p ts) (executing p (params_over (tables p) rest p ts))
executed_of tables rest ts (Err f) = Err f

-- with the tables that its statement names
abbrev pub own_tables : History → (session : ℕ) → Prepared → List Item
own_tables h s p = tables_meant h s p.statement

-- by an EXECUTE of the name with these arguments
abbrev pub executed : History → (session : ℕ) → Option Rest → List Prepared → (name : List ℕ) → Trees → Result Execution Fault
executed h s rest ps name ts = executed_of (own_tables h s) rest ts (found ps name)

-- .. of a statement that has no table
abbrev pub executed_over : List Item → List Prepared → (name : List ℕ) → Trees → Result Execution Fault
executed_over tables ps name ts = executed_of (λ p. tables) None ts (found ps name)

abbrev pub explained_of : History → (session : ℕ) → Trees → Result Prepared Fault → Result Execution Fault
explained_of h s ts (Ok p) = unless_faulty (not_explained p.statement ++ counted p ts) (executing p (arguments_of (own_tables h s p) p ts))
explained_of h s ts (Err f) = Err f

-- by an EXPLAIN of it
abbrev pub explained_by : History → (session : ℕ) → List Prepared → (name : List ℕ) → Trees → Result Execution Fault
explained_by h s ps name ts = explained_of h s ts (found ps name)

-- ---- what is prepared afterwards

abbrev pub listed_after : List Prepared → Result (List Prepared) Fault → List Prepared
listed_after ps (Ok qs) = qs
listed_after ps (Err f) = ps

abbrev pub command_kept : List Prepared → CommandTree → List Prepared
command_kept ps (deallocates name) = listed_after ps (deallocated ps name)
command_kept ps deallocates_all = []
command_kept ps t = ps

abbrev pub query_kept : List Prepared → QueryTree → List Prepared
query_kept ps (prepares name types s) = listed_after ps (prepared ps name types s)
query_kept ps t = ps

-- by PREPARE and DEALLOCATE; any other statement prepares nothing
abbrev pub kept : List Prepared → StatementTree → List Prepared
kept ps (commands t) = command_kept ps t
kept ps (queries t) = query_kept ps t
