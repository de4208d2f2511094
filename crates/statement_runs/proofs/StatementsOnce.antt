-- A statement commits what it did first once at most.
use Rattle.std.specs.Prelude.{ℕ, List, [], ◌++◌, Bool, true, false, refl, codes, length, Option, Some, None, is_some, Result, Ok, Err}
use Rattle.std.proofs.lemmas.Bool.{false≢true}
use Rattle.history.specs.History.{History}
use Rattle.sessions.specs.Commits.{CommitsOnce}
use Rattle.sessions.specs.declared.settings.Settings.{Settings}
use Rattle.sql_ast.specs.Commands.{CommandTree, begins, commits, rolls_back, sets, resets, makes_table, makes_partition, drops, attaches, detaches, locks, deallocates, deallocates_all}
use Rattle.sql_ast.specs.declared.detachment.Detachment.TheVariants.{AtOnce, Concurrently, Finalize}
use Rattle.sql_ast.specs.Queries.{RowTree, QueryTree, selects, inserts, updates, deletes, rows, prepares, executes, explains_select, explains_execute}
use Rattle.sql_ast.specs.Statements.{StatementTree, commands, queries}
use Rattle.pg_values.specs.declared.fault.Fault.{Fault}
use Rattle.expression_binder.specs.declared.scope.Param.{Param}
use Rattle.prepared_statements.specs.Prepared.{Prepared, prepared, deallocated}
use Rattle.statement_runs.specs.Executions.{Execution, executed, explained_by}
use Rattle.statement_runs.specs.Database.{outcome_told, rest_told}
use Rattle.statement_steps.specs.Ended.{Done, silent_end, told_as}
use Rattle.statement_steps.specs.Made.{Halt, Waits, Refused}
use Rattle.statement_steps.specs.declared.caller.Caller.{Caller}
use Rattle.statement_steps.specs.declared.ending.Ending.TheVariants as endings
use Rattle.statement_steps.specs.declared.rest.Rest.{Rest}
use Rattle.statement_steps.specs.declared.rest.Rest.TheVariants.{Detach}
use Rattle.statement_steps.specs.declared.rest.RestOfDetach.{RestOfDetach}
use Rattle.statement_steps.specs.Steps.{told_on}
use Rattle.select_statement.specs.Explained.{explains}
use Rattle.select_statement.specs.Selected.{selected}
use Rattle.insert_statement.specs.Inserted.{inserted}
use Rattle.change_statement.specs.Deleted.{deleted}
use Rattle.change_statement.specs.Updated.{updated}
use Rattle.table_statements.specs.Tables.{created}
use Rattle.table_statements.specs.Partitions.{partitioned}
use Rattle.table_statements.specs.Drops.{dropped}
use Rattle.table_statements.specs.Locked.{locked}
use Rattle.alter_table.specs.Concurrent.{behind_nobody, by_rest, detach_of, first_stage, later_stages}
use Rattle.alter_table.specs.Detached.{detached}
use Rattle.alter_table.specs.Finalized.{finalized}
use Rattle.alter_table.specs.Attached.{attached}
use Rattle.statement_runs.specs.Attempted.{answer_text, attempted, changed_text, command_attempted, execute_attempted, execution_explained, inserted_text, is_trailed, listing, plan_of_execution, planning_of, query_attempted, row_attempted, table}
use Rattle.statement_runs.specs.Roles.{command_committed, has_committed}
use Rattle.statement_runs.specs.declared.options.Options.{Options}
use Rattle.plan_tree.specs.declared.planning.Planning.{Planning}

-- one that is done, or stops
plain_once : {T : Type 0} (committed : Option Rest → Bool) (text : T → List ℕ) (t : Result T Halt) → CommitsOnce false (committed (rest_told (told_as (λ x. Done (text x)) t))) (outcome_told (told_as (λ x. Done (text x)) t))
plain_once committed text (Ok x) = tt
plain_once committed text (Err (Waits rest)) = λ e. absurd (false≢true e)
plain_once committed text (Err (Refused f)) = tt

-- a concurrent DETACH at its beginning
first_once : (t : Result RestOfDetach Halt) → CommitsOnce false (is_some (detach_of (rest_told (told_as silent_end (told_as endings.Commits t))))) (outcome_told (told_as silent_end (told_as endings.Commits t)))
first_once (Ok d) = (refl, refl)
first_once (Err (Waits rest)) = λ e. absurd (false≢true e)
first_once (Err (Refused f)) = tt

-- and behind its mark
later_once : (d : RestOfDetach) (t : Result (Unit {0}) Halt)
    → CommitsOnce true (is_some (detach_of (rest_told (told_as silent_end (told_as (λ u. endings.Done) (told_on (Some (Detach d)) t)))))) (outcome_told (told_as silent_end (told_as (λ u. endings.Done) (told_on (Some (Detach d)) t))))
later_once d (Ok u) = tt
later_once d (Err (Waits rest)) = λ e. refl
later_once d (Err (Refused f)) = tt

-- ---- each statement

command_once : (names : List (List ℕ)) (c : Caller) (rest : Option Rest) (h : History) (ps : List Prepared) (t : CommandTree)
    → CommitsOnce (command_committed rest t) (command_committed (rest_told (command_attempted names c rest ps t h).told) t) (outcome_told (command_attempted names c rest ps t h).told)
command_once names c rest h ps (makes_table name columns by) = plain_once (λ r. false) (λ (u : Unit {0}). []) (created names c name columns by h).told
command_once names c rest h ps (makes_partition name parent bound by) = plain_once (λ r. false) (λ (u : Unit {0}). []) (partitioned names c name parent bound by h).told
command_once names c rest h ps (drops if_there tables) = plain_once (λ r. false) (λ (u : Unit {0}). []) (dropped names c if_there tables h).told
command_once names c rest h ps (attaches parent name bound) = plain_once (λ r. false) (λ (u : Unit {0}). []) (attached names c parent name bound h).told
command_once names c rest h ps (detaches parent name AtOnce) = plain_once (λ r. false) (λ (u : Unit {0}). []) (detached names c parent name h).told
command_once names c rest h ps (detaches parent name Concurrently) = by (detach_of rest)
  where
    by : (o : Option RestOfDetach) → CommitsOnce (is_some o) (is_some (detach_of (rest_told (told_as silent_end (by_rest names c o parent name h).told)))) (outcome_told (told_as silent_end (by_rest names c o parent name h).told))
    by None = first_once (first_stage names c parent name h).told
    by (Some d) = later_once (behind_nobody d) (later_stages names c d parent name h).told
command_once names c rest h ps (detaches parent name Finalize) = plain_once (λ r. false) (λ (u : Unit {0}). []) (finalized names c parent name h).told
command_once names c rest h ps (locks tables mode) = plain_once (λ r. false) (λ (u : Unit {0}). []) (locked names c.session tables mode h).told
command_once names c rest h ps (begins level) = tt
command_once names c rest h ps commits = tt
command_once names c rest h ps rolls_back = tt
command_once names c rest h ps (sets name value) = tt
command_once names c rest h ps (resets name) = tt
command_once names c rest h ps (deallocates name) = plain_once (λ r. false) (λ (u : Unit {0}). []) (listing c (deallocated ps name) h).told
command_once names c rest h ps deallocates_all = plain_once (λ r. false) (λ (u : Unit {0}). []) (listing c (Ok []) h).told

row_once : (trailed : Bool) (how : Planning) (names : List (List ℕ)) (params : List Param) (c : Caller) (rest : Option Rest) (h : History) (t : RowTree)
    → CommitsOnce false false (outcome_told (row_attempted trailed how names params c rest t h).told)
row_once trailed how names params c rest h (selects s) = let m = selected how names params c s h in plain_once (λ r. false) (answer_text trailed (m.events ++ h)) m.told
row_once trailed how names params c rest h (inserts name columns values) = let m = inserted names params c name columns values h in plain_once (λ r. false) (inserted_text trailed (length values) (m.events ++ h)) m.told
row_once trailed how names params c rest h (updates name settings condition) = let m = updated how names params c rest name settings condition h in plain_once (λ r. false) (changed_text trailed (codes "UPDATE") (m.events ++ h)) m.told
row_once trailed how names params c rest h (deletes name condition) = let m = deleted how names params c rest name condition h in plain_once (λ r. false) (changed_text trailed (codes "DELETE") (m.events ++ h)) m.told

execute_once : (trailed : Bool) (how : Planning) (names : List (List ℕ)) (c : Caller) (rest : Option Rest) (h : History) (r : Result Execution Fault)
    → CommitsOnce false false (outcome_told (execute_attempted trailed how names c rest r h).told)
execute_once trailed how names c rest h (Ok e) = row_once trailed how names e.params c rest h e.statement
execute_once trailed how names c rest h (Err f) = tt

plan_once : (how : Planning) (names : List (List ℕ)) (params : List Param) (c : Caller) (analyze : Bool) (h : History) (t : RowTree) → CommitsOnce false false (outcome_told (plan_of_execution how names params c analyze t h).told)
plan_once how names params c analyze h (selects s) = plain_once (λ r. false) table (explains analyze how names params c s h).told
plan_once how names params c analyze h (inserts name columns values) = tt
plan_once how names params c analyze h (updates name settings condition) = tt
plan_once how names params c analyze h (deletes name condition) = tt

explained_once : (how : Planning) (names : List (List ℕ)) (c : Caller) (analyze : Bool) (h : History) (r : Result Execution Fault) → CommitsOnce false false (outcome_told (execution_explained how names c analyze r h).told)
explained_once how names c analyze h (Ok e) = plan_once how names e.params c analyze h e.statement
explained_once how names c analyze h (Err f) = tt

query_once : (trailed : Bool) (how : Planning) (names : List (List ℕ)) (c : Caller) (rest : Option Rest) (h : History) (ps : List Prepared) (t : QueryTree)
    → CommitsOnce false false (outcome_told (query_attempted trailed how names c rest ps t h).told)
query_once trailed how names c rest h ps (rows r) = row_once trailed how names [] c rest h r
query_once trailed how names c rest h ps (prepares name types r) = plain_once (λ r. false) (λ (u : Unit {0}). []) (listing c (prepared ps name types r) h).told
query_once trailed how names c rest h ps (executes name ts) = execute_once trailed how names c rest h (executed h c.session rest ps name ts)
query_once trailed how names c rest h ps (explains_select analyze s) = plain_once (λ r. false) table (explains analyze how names [] c s h).told
query_once trailed how names c rest h ps (explains_execute analyze name ts) = explained_once how names c analyze h (explained_by h c.session ps name ts)

pub all_once : (o : Options) (c : Caller) (rest : Option Rest) (h : History) (g : Settings) (ps : List Prepared) (t : StatementTree)
    → CommitsOnce (has_committed rest t) (has_committed (rest_told (attempted o c rest g ps t h).told) t) (outcome_told (attempted o c rest g ps t h).told)
unfolding attempted
all_once o c rest h g ps (commands t) = command_once o.names c rest h ps t
all_once o c rest h g ps (queries t) = query_once (is_trailed o c) (planning_of g) o.names c rest h ps t
