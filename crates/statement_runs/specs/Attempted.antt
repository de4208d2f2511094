-- What a statement of a session makes of a history, and what it prints (VI. SQL Commands).
use Rattle.std.specs.Prelude.{ℕ, ◌&&◌, Bool, true, false, List, [], ◌++◌, Option, Result, Ok, Err, codes, length}
use Rattle.pg_values.specs.declared.answer.Answer.{Answer}
use Rattle.pg_values.specs.declared.fault.Fault.{Fault}
use Rattle.refusals.specs.Refusals.{left_out}
use Rattle.history.specs.History.{History}
use Rattle.schedule.specs.declared.block.BlockKind.{BlockKind}
use Rattle.schedule.specs.declared.block.BlockKind.TheVariants.{Step}
use Rattle.sessions.specs.declared.settings.PlanCacheMode.{PlanCacheMode}
use Rattle.sessions.specs.declared.settings.PlanCacheMode.TheVariants.{ForceGenericPlan}
use Rattle.sessions.specs.declared.settings.Settings.{Settings}
use Rattle.sql_ast.specs.Commands.{CommandTree, makes_table, makes_partition, drops, attaches, detaches, locks, deallocates, deallocates_all}
use Rattle.sql_ast.specs.declared.detachment.Detachment.TheVariants.{AtOnce, Concurrently, Finalize}
use Rattle.sql_ast.specs.Expressions.{Trees}
use Rattle.sql_ast.specs.Queries.{SelectTree, RowTree, QueryTree, selects, inserts, updates, deletes, rows, prepares, executes, explains_select, explains_execute}
use Rattle.sql_ast.specs.Statements.{StatementTree, commands, queries}
use Rattle.out_text.specs.Table.{printed_table}
use Rattle.statement_steps.specs.Ended.{Ended, Done, silent_end, giving}
use Rattle.statement_steps.specs.Made.{Made, Refused, made, halted}
use Rattle.statement_steps.specs.Asks.{held_at}
use Rattle.statement_steps.specs.Steps.{follow}
use Rattle.statement_steps.specs.declared.caller.Caller.{Caller}
use Rattle.statement_steps.specs.declared.ending.Ending.{Ending}
use Rattle.statement_steps.specs.declared.rest.Rest.{Rest}
use Rattle.select_statement.specs.Explained.{explains}
use Rattle.select_statement.specs.Selected.{Told as SelectTold, selected}
use Rattle.insert_statement.specs.Inserted.{inserted}
use Rattle.change_statement.specs.Changed.{Told as ChangeTold}
use Rattle.change_statement.specs.Deleted.{deleted}
use Rattle.change_statement.specs.Updated.{updated}
use Rattle.table_statements.specs.Tables.{created}
use Rattle.table_statements.specs.Partitions.{partitioned}
use Rattle.table_statements.specs.Drops.{dropped}
use Rattle.table_statements.specs.Locked.{locked}
use Rattle.alter_table.specs.Detached.{detached}
use Rattle.alter_table.specs.Concurrent.{detached_concurrently}
use Rattle.alter_table.specs.Finalized.{finalized}
use Rattle.alter_table.specs.Attached.{attached}
use Rattle.expression_binder.specs.declared.scope.Param.{Param}
use Rattle.prepared_statements.specs.Prepared.{Prepared, prepared, deallocated, first_word}
use Rattle.statement_runs.specs.Executions.{Execution, executed, explained_by}
use Rattle.statement_runs.specs.LeftOut.{command_word}
use Rattle.statement_runs.specs.declared.options.Options.{Options}
use Rattle.statement_runs.specs.Trails.{trail_text}
use Rattle.plan_tree.specs.declared.planning.Planning.{Planning}

abbrev pub is_step : BlockKind → Bool
is_step Step = true
is_step _ = false

-- the trails of steps alone are printed
abbrev pub is_trailed : Options → Caller → Bool
is_trailed o c = o.trail && is_step c.kind

-- ---- how a session plans

-- plans of prepared statements are generic where the session asks for it; those of a statement without parameters are alike
abbrev pub is_generic : PlanCacheMode → Bool
is_generic ForceGenericPlan = true
is_generic _ = false

abbrev pub planning_of : Settings → Planning
planning_of g = record { prunes = g.enable_partition_pruning; hashes = g.enable_hashjoin; pairs = g.enable_partitionwise_join; is_generic = is_generic g.plan_cache_mode }

-- ---- what is printed

abbrev pub nothing : Unit {0} → Ended
nothing u = Done []

abbrev pub table : Answer → List ℕ
table a = printed_table a.names a.kinds a.rows

abbrev pub as_table : Answer → Ended
as_table a = Done (table a)

abbrev pub silent : (History → Made (Unit {0})) → History → Made Ended
silent f h = giving nothing (f h)

abbrev pub tabled : (History → Made Answer) → History → Made Ended
tabled f h = giving as_table (f h)

-- by what is told, and by what has happened then
abbrev pub printed : {T : Type 0} → (History → T → List ℕ) → (History → Made T) → History → Made Ended
printed text f h = giving (λ x. Done (text ((f h).events ++ h) x)) (f h)

-- an answer, and the trail, where that is asked for
abbrev pub answer_text : (trailed : Bool) → History → SelectTold → List ℕ
answer_text trailed h t = table t.answer ++ trail_text trailed (codes "SELECT") (length t.answer.rows) t.reads h

-- INSERT reads no leaf
abbrev pub inserted_text : (trailed : Bool) → (count : ℕ) → History → Unit {0} → List ℕ
inserted_text trailed count h u = trail_text trailed (codes "INSERT") count [] h

abbrev pub changed_text : (trailed : Bool) → (word : List ℕ) → History → ChangeTold → List ℕ
changed_text trailed word h t = trail_text trailed word t.rows t.reads h

-- where it may commit what it did first
abbrev pub staged : (History → Made Ending) → History → Made Ended
staged f h = giving silent_end (f h)

-- ---- statements; each that has no case of its own is left out

abbrev pub omitted : (word : List ℕ) → History → Made Ended
omitted word h = halted [] (Refused (left_out word))

-- what is prepared changes, or the first fault is told
abbrev pub taken : Result (List Prepared) Fault → History → Made (Unit {0})
taken (Ok ps) h = made [] tt
taken (Err f) h = halted [] (Refused f)

-- a transaction at REPEATABLE READ takes its snapshot then, too
abbrev pub listing : Caller → Result (List Prepared) Fault → History → Made (Unit {0})
listing c told = follow (held_at c.level c.session c.cmd) (λ u. taken told)

abbrev pub command_attempted : (names : List (List ℕ)) → Caller → Option Rest → List Prepared → CommandTree → History → Made Ended
command_attempted names c rest ps (makes_table name columns by) = silent (created names c name columns by)
command_attempted names c rest ps (makes_partition name parent bound by) = silent (partitioned names c name parent bound by)
command_attempted names c rest ps (drops if_there tables) = silent (dropped names c if_there tables)
command_attempted names c rest ps (attaches parent name bound) = silent (attached names c parent name bound)
command_attempted names c rest ps (detaches parent name AtOnce) = silent (detached names c parent name)
command_attempted names c rest ps (detaches parent name Concurrently) = staged (detached_concurrently names c rest parent name)
command_attempted names c rest ps (detaches parent name Finalize) = silent (finalized names c parent name)
command_attempted names c rest ps (locks tables mode) = silent (locked names c.session tables mode)
command_attempted names c rest ps (deallocates name) = silent (listing c (deallocated ps name))
command_attempted names c rest ps deallocates_all = silent (listing c (Ok []))
command_attempted names c rest ps t = omitted (command_word t)

abbrev pub select_attempted : (trailed : Bool) → Planning → (names : List (List ℕ)) → List Param → Caller → SelectTree → History → Made Ended
select_attempted trailed how names params c s = printed (answer_text trailed) (selected how names params c s)

-- with the values of its parameters
abbrev pub row_attempted : (trailed : Bool) → Planning → (names : List (List ℕ)) → List Param → Caller → Option Rest → RowTree → History → Made Ended
row_attempted trailed how names params c rest (selects s) = select_attempted trailed how names params c s
row_attempted trailed how names params c rest (inserts table columns values) = printed (inserted_text trailed (length values)) (inserted names params c table columns values)
row_attempted trailed how names params c rest (updates table settings condition) = printed (changed_text trailed (codes "UPDATE")) (updated how names params c rest table settings condition)
row_attempted trailed how names params c rest (deletes table condition) = printed (changed_text trailed (codes "DELETE")) (deleted how names params c rest table condition)

-- with ANALYZE it is run too; it has no trail
abbrev pub plan_attempted : Planning → (names : List (List ℕ)) → List Param → Caller → (analyze : Bool) → SelectTree → History → Made Ended
plan_attempted how names params c analyze s = tabled (explains analyze how names params c s)

-- ---- what was prepared

abbrev pub execute_attempted : (trailed : Bool) → Planning → (names : List (List ℕ)) → Caller → Option Rest → Result Execution Fault → History → Made Ended
execute_attempted trailed how names c rest (Ok e) = row_attempted trailed how names e.params c rest e.statement
execute_attempted trailed how names c rest (Err f) = λ h. halted [] (Refused f)

-- the plan of a SELECT; that of another statement is refused before
abbrev pub plan_of_execution : Planning → (names : List (List ℕ)) → List Param → Caller → (analyze : Bool) → RowTree → History → Made Ended
plan_of_execution how names params c analyze (selects s) = plan_attempted how names params c analyze s
plan_of_execution how names params c analyze s = omitted (first_word s)

abbrev pub execution_explained : Planning → (names : List (List ℕ)) → Caller → (analyze : Bool) → Result Execution Fault → History → Made Ended
execution_explained how names c analyze (Ok e) = plan_of_execution how names e.params c analyze e.statement
execution_explained how names c analyze (Err f) = λ h. halted [] (Refused f)

abbrev pub explain_execute_attempted : Planning → (names : List (List ℕ)) → Caller → List Prepared → (analyze : Bool) → (name : List ℕ) → Trees → History → Made Ended
explain_execute_attempted how names c ps analyze name ts = λ h. execution_explained how names c analyze (explained_by h c.session ps name ts) h

-- ---- each statement, in a session that has prepared these

abbrev pub query_attempted : (trailed : Bool) → Planning → (names : List (List ℕ)) → Caller → Option Rest → List Prepared → QueryTree → History → Made Ended
query_attempted trailed how names c rest ps (rows r) = row_attempted trailed how names [] c rest r
query_attempted trailed how names c rest ps (prepares name types s) = silent (listing c (prepared ps name types s))
query_attempted trailed how names c rest ps (executes name ts) = λ h. execute_attempted trailed how names c rest (executed h c.session rest ps name ts) h
query_attempted trailed how names c rest ps (explains_select analyze s) = plan_attempted how names [] c analyze s
query_attempted trailed how names c rest ps (explains_execute analyze name ts) = explain_execute_attempted how names c ps analyze name ts

-- from its beginning, or from where it stood, in a session with these settings; it is opened where that matters alone
unfoldable pub attempted : Options → Caller → Option Rest → Settings → List Prepared → StatementTree → History → Made Ended
attempted o c rest g ps (commands t) = command_attempted o.names c rest ps t
attempted o c rest g ps (queries t) = query_attempted (is_trailed o c) (planning_of g) o.names c rest ps t
