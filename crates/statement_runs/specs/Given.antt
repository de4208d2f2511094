-- What completed statements give and read (partscript's own): the rows that SELECTs answer, and the leaves that are read,
-- each as often as it is read.
use Rattle.std.specs.Prelude.{ℕ, List, [], Option, Result, Ok, Err, length}
use Rattle.history.specs.History.{History}
use Rattle.schedule.specs.declared.tally.Tally.{Tally}
use Rattle.sessions.specs.declared.settings.Settings.{Settings}
use Rattle.sql_ast.specs.Queries.{QueryTree, rows as row_query, executes, RowTree, selects, inserts, updates, deletes, SelectTree}
use Rattle.sql_ast.specs.Statements.{StatementTree, commands, queries}
use Rattle.expression_binder.specs.declared.scope.Param.{Param}
use Rattle.prepared_statements.specs.Prepared.{Prepared}
use Rattle.pg_values.specs.declared.fault.Fault.{Fault}
use Rattle.statement_steps.specs.Made.{Halt}
use Rattle.statement_steps.specs.declared.caller.Caller.{Caller}
use Rattle.statement_steps.specs.declared.rest.Rest.{Rest}
use Rattle.select_statement.specs.Selected.{Told as SelectTold, selected}
use Rattle.change_statement.specs.Changed.{Told as ChangeTold}
use Rattle.change_statement.specs.Deleted.{deleted}
use Rattle.change_statement.specs.Updated.{updated}
use Rattle.statement_runs.specs.Executions.{Execution, executed}
use Rattle.statement_runs.specs.Tallies.{none}
use Rattle.statement_runs.specs.declared.options.Options.{Options}
use Rattle.plan_tree.specs.declared.planning.Planning.{Planning}
use Rattle.statement_runs.specs.Attempted.{planning_of}

-- by what is told of it: nothing, where it waits or is refused
abbrev pub given : {T : Type 0} → (T → Tally) → Result T Halt → Tally
given f (Ok x) = f x
given f (Err halt) = none

abbrev pub of_select : SelectTold → Tally
of_select t = record { rows = length t.answer.rows; reads = length t.reads }

abbrev pub of_change : ChangeTold → Tally
of_change t = record { rows = 0; reads = length t.reads }

abbrev pub select_given : Planning → (names : List (List ℕ)) → List Param → Caller → SelectTree → History → Tally
select_given how names params c s h = given of_select (selected how names params c s h).told

-- INSERT reads no leaf
abbrev pub row_given : Planning → (names : List (List ℕ)) → List Param → Caller → Option Rest → RowTree → History → Tally
row_given how names params c rest (selects s) h = select_given how names params c s h
row_given how names params c rest (inserts table columns values) h = none
row_given how names params c rest (updates table settings condition) h = given of_change (updated how names params c rest table settings condition h).told
row_given how names params c rest (deletes table condition) h = given of_change (deleted how names params c rest table condition h).told

abbrev pub execution_given : Planning → (names : List (List ℕ)) → Caller → Option Rest → Result Execution Fault → History → Tally
execution_given how names c rest (Ok e) h = row_given how names e.params c rest e.statement h
execution_given how names c rest (Err f) h = none

-- PREPARE gives and reads nothing, and what an EXPLAIN reads is not counted
abbrev pub query_given : Planning → (names : List (List ℕ)) → Caller → Option Rest → List Prepared → QueryTree → History → Tally
query_given how names c rest ps (row_query r) h = row_given how names [] c rest r h
query_given how names c rest ps (executes name ts) h = execution_given how names c rest (executed h c.session rest ps name ts) h
query_given how names c rest ps t h = none

-- if it comes to its end there
unfoldable pub statement_given : Options → Caller → Option Rest → Settings → List Prepared → StatementTree → History → Tally
statement_given o c rest g ps (commands t) h = none
statement_given o c rest g ps (queries t) h = query_given (planning_of g) o.names c rest ps t h
