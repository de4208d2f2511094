-- What a statement is in the course of a session (VI. SQL Commands).
use Rattle.std.specs.Prelude.{ℕ, ◌-◌, Bool, true, false, List, [], Option, None, Result, Ok, Err, is_some}
use Rattle.pg_values.specs.declared.fault.Fault.{Fault}
use Rattle.sessions.specs.declared.asker.Place.{Place}
use Rattle.sessions.specs.declared.role.Role.{Role}
use Rattle.sessions.specs.declared.role.Role.TheVariants.{Begin, Commit, Rollback, Set, Query}
use Rattle.sessions.specs.declared.settings.Settings.{Settings}
use Rattle.sql_ast.specs.Commands.{CommandTree, begins, commits, rolls_back, sets, resets, detaches, locks}
use Rattle.sql_ast.specs.Queries.{RowTree, QueryTree, selects, rows, executes, explains_select, explains_execute}
use Rattle.sql_ast.specs.Statements.{StatementTree, commands, queries}
use Rattle.sql_ast.specs.declared.detachment.Detachment.TheVariants.{Concurrently}
use Rattle.statement_steps.specs.declared.rest.Rest.{Rest}
use Rattle.expression_binder.specs.declared.scope.Param.{Param}
use Rattle.prepared_statements.specs.Prepared.{Prepared}
use Rattle.select_statement.specs.Cancels.{cancelled}
use Rattle.table_statements.specs.Places.{lock_misplaced}
use Rattle.alter_table.specs.Concurrent.{detach_of}
use Rattle.alter_table.specs.Misplaced.{detach_misplaced}
use Rattle.statement_runs.specs.Changes as settings
use Rattle.statement_runs.specs.Executions.{Execution, executed_over}

abbrev pub command_role : CommandTree → Role
command_role (begins level) = Begin level
command_role commits = Commit
command_role rolls_back = Rollback
command_role (sets name value) = Set
command_role (resets name) = Set
command_role _ = Query

abbrev pub role_of : StatementTree → Role
role_of (commands c) = command_role c
role_of (queries q) = Query

-- transaction control, LOCK, SET and RESET take no snapshot
abbrev pub command_looks : CommandTree → Bool
command_looks (begins level) = false
command_looks commits = false
command_looks rolls_back = false
command_looks (sets name value) = false
command_looks (resets name) = false
command_looks (locks tables mode) = false
command_looks _ = true

abbrev pub looks : StatementTree → Bool
looks (commands c) = command_looks c
looks (queries q) = true

-- SET and RESET; another statement changes no settings
abbrev pub command_settings : Settings → CommandTree → Result Settings Fault
command_settings g (sets name value) = settings.set g name value
command_settings g (resets name) = settings.reset g name
command_settings g _ = Ok g

abbrev pub changed : Settings → StatementTree → Result Settings Fault
changed g (commands c) = command_settings g c
changed g (queries q) = Ok g

-- of the statements that are run over the stores LOCK and a concurrent DETACH cannot stand everywhere
abbrev pub command_misplaced : Place → CommandTree → Option Fault
command_misplaced place (locks tables mode) = lock_misplaced place.alone place.explicit
command_misplaced place (detaches parent name Concurrently) = detach_misplaced place.alone place.explicit
command_misplaced place t = None

abbrev pub misplaced : Place → StatementTree → Option Fault
misplaced place (commands t) = command_misplaced place t
misplaced place (queries t) = None

-- a concurrent DETACH alone commits what it did first
abbrev pub command_committed : Option Rest → CommandTree → Bool
command_committed rest (detaches parent name Concurrently) = is_some (detach_of rest)
command_committed rest t = false

abbrev pub has_committed : Option Rest → StatementTree → Bool
has_committed rest (commands t) = command_committed rest t
has_committed rest (queries t) = false

-- a SELECT alone cancels waits, where it is run; where it has a FROM it has no such call, so its parameters are those of no table
abbrev pub row_cancelled : List Param → (session sessions : ℕ) → RowTree → List ℕ
row_cancelled params s sessions (selects t) = cancelled params s sessions t
row_cancelled params s sessions t = []

abbrev pub execution_cancelled : (session sessions : ℕ) → Result Execution Fault → List ℕ
execution_cancelled s sessions (Ok e) = row_cancelled e.params s sessions e.statement
execution_cancelled s sessions (Err f) = []

abbrev pub query_cancelled : (session sessions : ℕ) → List Prepared → QueryTree → List ℕ
query_cancelled s sessions ps (rows r) = row_cancelled [] s sessions r
query_cancelled s sessions ps (executes name ts) = execution_cancelled s sessions (executed_over [] ps name ts)
query_cancelled s sessions ps (explains_select true t) = cancelled [] s sessions t
query_cancelled s sessions ps (explains_execute true name ts) = execution_cancelled s sessions (executed_over [] ps name ts)
query_cancelled s sessions ps t = []

-- the control session is one of the sessions, and no number names it
abbrev pub cancelled_by : (session sessions : ℕ) → List Prepared → StatementTree → List ℕ
cancelled_by s sessions ps (commands t) = []
cancelled_by s sessions ps (queries t) = query_cancelled s (sessions - 1) ps t
