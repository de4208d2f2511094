-- Each statement asks as a session may.
use Rattle.std.proofs.Common.{◌≤◌, ℕ, Bool, List, [], ◌++◌, Option, Result, Ok, Err, refl, sym, subst, length, codes, arith}
use Rattle.pg_values.specs.declared.answer.Answer.{Answer}
use Rattle.pg_values.specs.declared.fault.Fault.{Fault}
use Rattle.refusals.specs.Refusals.{left_out}
use Rattle.history.specs.History.{History, catalogue_events}
use Rattle.lock_table.specs.AnswerLaws.{WhatIsAskedMayCome}
use Rattle.sessions.specs.declared.settings.Settings.{Settings}
use Rattle.sql_ast.specs.Commands.{CommandTree, begins, commits, rolls_back, sets, resets, makes_table, makes_partition, drops, attaches, detaches, locks, deallocates, deallocates_all}
use Rattle.sql_ast.specs.declared.detachment.Detachment.TheVariants.{AtOnce, Concurrently, Finalize}
use Rattle.sql_ast.specs.Queries.{SelectTree, RowTree, QueryTree, selects, inserts, updates, deletes, rows, prepares, executes, explains_select, explains_execute}
use Rattle.sql_ast.specs.Statements.{StatementTree, commands, queries}
use Rattle.expression_binder.specs.declared.scope.Param.{Param}
use Rattle.prepared_statements.specs.Prepared.{Prepared, prepared, deallocated}
use Rattle.statement_steps.specs.Ended.{Ended, Done, Commits, silent_end}
use Rattle.statement_steps.specs.Made.{Made, Halt, Waits, Refused}
use Rattle.statement_steps.specs.declared.caller.Caller.{Caller}
use Rattle.statement_steps.specs.declared.ending.Ending.{Ending}
use Rattle.statement_steps.specs.declared.ending.Ending.TheVariants as endings
use Rattle.statement_steps.specs.declared.rest.Rest.{Rest}
use Rattle.select_statement.specs.Explained.{explains}
use Rattle.select_statement.specs.Selected.{selected}
use Rattle.insert_statement.specs.Inserted.{inserted}
use Rattle.change_statement.specs.Deleted.{deleted}
use Rattle.change_statement.specs.Updated.{updated}
use Rattle.table_statements.specs.Tables.{created}
use Rattle.table_statements.specs.Partitions.{partitioned}
use Rattle.table_statements.specs.Drops.{dropped}
use Rattle.table_statements.specs.Locked.{locked}
use Rattle.alter_table.specs.Concurrent.{detached_concurrently}
use Rattle.alter_table.specs.Detached.{detached}
use Rattle.alter_table.specs.Finalized.{finalized}
use Rattle.alter_table.specs.Attached.{attached}
use Rattle.statement_steps.specs.Asks.{held_at}
use Rattle.statement_runs.specs.Attempted.{answer_text, attempted, changed_text, command_attempted, execute_attempted, execution_explained, inserted_text, is_trailed, listing, plan_attempted, plan_of_execution, planning_of, row_attempted, query_attempted, silent, tabled, taken, printed, omitted, nothing, as_table}
use Rattle.statement_runs.specs.Database.{rest_told}
use Rattle.statement_runs.specs.Executions.{Execution, executed, explained_by}
use Rattle.statement_runs.specs.LeftOut.{command_word}
use Rattle.statement_runs.specs.declared.options.Options.{Options}
use Rattle.run_ends.specs.Asking.{HasSessions, IsKnown, WaitsAsTold, MayAsk, Asks, AllAsk}
use Rattle.run_ends.specs.NamedTables.{tables_named}
use Rattle.run_ends.proofs.StatementParts.{Attempt, Told, Part, Parts, Gives, Any, Ends, made_part, refused_part, then_parts, giving_part}
use Rattle.run_ends.proofs.Locks.{held_at_parts}
use Rattle.run_ends.proofs.Numbers.{tables_below, entries_below}
use Rattle.run_ends.proofs.Partitions.{EndsKnown, detached_parts, concurrently_parts, finalized_parts, attached_parts}
use Rattle.run_ends.proofs.Rows.{inserted_parts, updated_parts, deleted_parts}
use Rattle.run_ends.proofs.Selecting.{selected_parts, explains_parts}
use Rattle.run_ends.proofs.Tables.{created_parts, partitioned_parts, dropped_parts, locked_parts}
use Rattle.plan_tree.specs.declared.planning.Planning.{Planning}

-- where it has committed what it did first, the others whose ends it waits for are sessions
abbrev EndKnown : Ended → History → Type 0
EndKnown (Done text) g = Unit {0}
EndKnown (Commits d) g = HasSessions d.behind

end_known : (e : Ending) (g : History) → EndsKnown e g → EndKnown (silent_end e) g
end_known endings.Done g is = tt
end_known (endings.Commits d) g is = is

module _ (k : Attempt) (names : List (List ℕ)) where
  silent_parts : (P : Unit {0} → History → Type 0) (f : History → Made (Unit {0})) → Parts k P f → Parts k EndKnown (silent f)
  silent_parts P f parts h now = giving_part k P EndKnown nothing h (f h) (λ u g is. tt) (parts h now)

  tabled_parts : (f : History → Made Answer) → Parts k (Gives k Any) f → Parts k EndKnown (tabled f)
  tabled_parts f parts h now = giving_part k (Gives k Any) EndKnown as_table h (f h) (λ a g is. tt) (parts h now)

  printed_parts : {T : Type 0} (text : History → T → List ℕ) (f : History → Made T) → Parts k (Gives k Any) f → Parts k EndKnown (printed text f)
  printed_parts text f parts h now = giving_part k (Gives k Any) EndKnown (λ x. Done (text ((f h).events ++ h) x)) h (f h) (λ x g is. tt) (parts h now)

  omitted_parts : (word : List ℕ) → Parts k EndKnown (omitted word)
  omitted_parts word h now = refused_part k EndKnown h (left_out word) now.may

  taken_parts : (r : Result (List Prepared) Fault) → Parts k (Gives k Any) (taken r)
  taken_parts (Ok ps) h now = made_part k (Gives k Any) h tt now.may (now.still, tt)
  taken_parts (Err f) h now = refused_part k (Gives k Any) h f now.may

  listed_parts : (r : Result (List Prepared) Fault) → Parts k EndKnown (silent (listing k.caller r))
  listed_parts r =
      silent_parts (Gives k Any) (listing k.caller r)
      (then_parts k Any (Gives k Any) (held_at k.caller.level k.caller.session k.caller.cmd) (λ u. taken r) (held_at_parts k k.caller.level k.caller.cmd) (λ u any. taken_parts r))

  command_parts : (rest : Option Rest) → IsKnown rest → (ps : List Prepared) (t : CommandTree) → Parts k EndKnown (command_attempted names k.caller rest ps t)
  command_parts rest known ps (makes_table name columns by) = silent_parts Ends (created names k.caller name columns by) (created_parts k names name columns by)
  command_parts rest known ps (makes_partition name parent bound by) = silent_parts Ends (partitioned names k.caller name parent bound by) (partitioned_parts k names name parent bound by)
  command_parts rest known ps (drops if_there tables) = silent_parts Ends (dropped names k.caller if_there tables) (dropped_parts k names if_there tables)
  command_parts rest known ps (attaches parent name bound) = silent_parts Ends (attached names k.caller parent name bound) (attached_parts k names parent name bound)
  command_parts rest known ps (detaches parent name AtOnce) = silent_parts Ends (detached names k.caller parent name) (detached_parts k names parent name)
  command_parts rest known ps (detaches parent name Concurrently) = λ h now.
      giving_part k EndsKnown EndKnown silent_end h (detached_concurrently names k.caller rest parent name h) end_known (concurrently_parts k names rest parent name known h now)
  command_parts rest known ps (detaches parent name Finalize) = silent_parts Ends (finalized names k.caller parent name) (finalized_parts k names parent name)
  command_parts rest known ps (locks tables mode) = silent_parts (Gives k Any) (locked names k.caller.session tables mode) (locked_parts k names tables mode)
  command_parts rest known ps (begins level) = omitted_parts (command_word (begins level))
  command_parts rest known ps commits = omitted_parts (command_word commits)
  command_parts rest known ps rolls_back = omitted_parts (command_word rolls_back)
  command_parts rest known ps (sets name value) = omitted_parts (command_word (sets name value))
  command_parts rest known ps (resets name) = omitted_parts (command_word (resets name))
  command_parts rest known ps (deallocates name) = listed_parts (deallocated ps name)
  command_parts rest known ps deallocates_all = listed_parts (Ok [])

  row_parts : (trailed : Bool) (how : Planning) (params : List Param) (rest : Option Rest) (t : RowTree) → Parts k EndKnown (row_attempted trailed how names params k.caller rest t)
  row_parts trailed how params rest (selects s) = printed_parts (answer_text trailed) (selected how names params k.caller s) (selected_parts k names params how s)
  row_parts trailed how params rest (inserts table columns values) = printed_parts (inserted_text trailed (length values)) (inserted names params k.caller table columns values) (inserted_parts k names params table columns values)
  row_parts trailed how params rest (updates table settings condition) =
      printed_parts (changed_text trailed (codes "UPDATE")) (updated how names params k.caller rest table settings condition) (updated_parts k names how params rest table settings condition)
  row_parts trailed how params rest (deletes table condition) = printed_parts (changed_text trailed (codes "DELETE")) (deleted how names params k.caller rest table condition) (deleted_parts k names how params rest table condition)

  plan_parts : (how : Planning) (params : List Param) (analyze : Bool) (s : SelectTree) → Parts k EndKnown (plan_attempted how names params k.caller analyze s)
  plan_parts how params analyze s = tabled_parts (explains analyze how names params k.caller s) (explains_parts k names params analyze how s)

  -- what is executed asks what its statement asks

  execute_parts : (trailed : Bool) (how : Planning) (rest : Option Rest) (r : Result Execution Fault) → Parts k EndKnown (execute_attempted trailed how names k.caller rest r)
  execute_parts trailed how rest (Ok e) = row_parts trailed how e.params rest e.statement
  execute_parts trailed how rest (Err f) = λ h now. refused_part k EndKnown h f now.may

  plan_execution_parts : (how : Planning) (params : List Param) (analyze : Bool) (t : RowTree) → Parts k EndKnown (plan_of_execution how names params k.caller analyze t)
  plan_execution_parts how params analyze (selects s) = plan_parts how params analyze s
  plan_execution_parts how params analyze (inserts table columns values) = omitted_parts (codes "INSERT")
  plan_execution_parts how params analyze (updates table settings condition) = omitted_parts (codes "UPDATE")
  plan_execution_parts how params analyze (deletes table condition) = omitted_parts (codes "DELETE")

  execution_explained_parts : (how : Planning) (analyze : Bool) (r : Result Execution Fault) → Parts k EndKnown (execution_explained how names k.caller analyze r)
  execution_explained_parts how analyze (Ok e) = plan_execution_parts how e.params analyze e.statement
  execution_explained_parts how analyze (Err f) = λ h now. refused_part k EndKnown h f now.may

  query_parts : (trailed : Bool) (how : Planning) (rest : Option Rest) (ps : List Prepared) (t : QueryTree) → Parts k EndKnown (query_attempted trailed how names k.caller rest ps t)
  query_parts trailed how rest ps (rows r) = row_parts trailed how [] rest r
  query_parts trailed how rest ps (prepares name types r) = listed_parts (prepared ps name types r)
  query_parts trailed how rest ps (executes name ts) = λ h now. execute_parts trailed how rest (executed h k.caller.session rest ps name ts) h now
  query_parts trailed how rest ps (explains_select analyze s) = plan_parts how [] analyze s
  query_parts trailed how rest ps (explains_execute analyze name ts) = λ h now. execution_explained_parts how analyze (explained_by h k.caller.session ps name ts) h now

attempted_parts : (k : Attempt) (o : Options) (rest : Option Rest) (g : Settings) → IsKnown rest → (ps : List Prepared) (t : StatementTree) → Parts k EndKnown (attempted o k.caller rest g ps t)
unfolding attempted
attempted_parts k o rest g known ps (commands t) = command_parts k o.names rest known ps t
attempted_parts k o rest g known ps (queries t) = query_parts k o.names (is_trailed o k.caller) (planning_of g) rest ps t

-- ---- a statement that may ask, with the tables of its catalogue

module _ (come : WhatIsAskedMayCome) (o : Options) (c : Caller) (rest : Option Rest) (h : History) (g : Settings) (ps : List Prepared) (t : StatementTree) (may : MayAsk c.session h) (known : IsKnown rest) where
  abbrev here : Attempt
  here = record { come = come; caller = c; catalogue = catalogue_events h; bound = tables_named (catalogue_events h); tables = tables_below (catalogue_events h); entries = entries_below (catalogue_events h) }

  part : Part here EndKnown h (attempted o c rest g ps t h)
  part = attempted_parts here o rest g known ps t h (record { may = may; still = refl })

  abbrev later : History
  later = (attempted o c rest g ps t h).events ++ h

  told : (r : Result Ended Halt) → Told here EndKnown later r → WaitsAsTold tables_named c.session h later r
  told (Ok x) is = is.0
  told (Err (Waits rest)) is = record {
    what = is.what;
    waits = is.waits;
    bounded = is.bounded;
    caused = is.caused;
    no_more = subst (λ events. tables_named events ≤ tables_named (catalogue_events h)) (sym is.still) (omega arith);
  }
  told (Err (Refused f)) is = is

  stands : (r : Result Ended Halt) → Told here EndKnown later r → IsKnown (rest_told r)
  stands (Ok (Done text)) is = tt
  stands (Ok (Commits d)) is = is.1
  stands (Err (Waits rest)) is = is.known
  stands (Err (Refused f)) is = tt

  statement_asks : Asks tables_named c.session h (attempted o c rest g ps t h)
  statement_asks = record { sound = part.sound; stay = part.stay; others = part.others; told = told (attempted o c rest g ps t h).told part.told }

  statement_stands : IsKnown (rest_told (attempted o c rest g ps t h).told)
  statement_stands = stands (attempted o c rest g ps t h).told part.told

pub all_ask : WhatIsAskedMayCome → AllAsk tables_named
all_ask come = record {
  each = λ o c rest h g ps t may known. statement_asks come o c rest h g ps t may known;
  rests = λ o c rest h g ps t may known. statement_stands come o c rest h g ps t may known;
}
