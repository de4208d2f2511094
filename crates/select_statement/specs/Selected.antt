-- What a SELECT of a session makes of a history (the manual, SELECT; 13.2 and 13.3.1).
use Rattle.std.specs.Prelude.{ℕ, ◌-◌, Bool, true, false, if◌then◌else◌, List, [], ◌∷◌, ◌++◌, map, Result, Ok, Err}
use Rattle.pg_values.specs.declared.answer.Answer.{Answer}
use Rattle.pg_values.specs.declared.fault.Fault.{Fault}
use Rattle.pg_values.specs.declared.ids.LeafId.{LeafId}
use Rattle.pg_values.specs.declared.ids.TableNo.{TableNo}
use Rattle.pg_values.specs.declared.lock_mode.LockMode.TheVariants.{AccessShare}
use Rattle.pg_values.specs.declared.value.Value.{Value}
use Rattle.refusals.specs.Refusals.{statement_cancelled}
use Rattle.history.specs.History.{History}
use Rattle.row_router.specs.Trees.{TableTree}
use Rattle.row_router.specs.Histories.{tree_of}
use Rattle.plan_tree.specs.Laws.{shown}
use Rattle.sql_ast.specs.Queries.{Joined, SelectTree}
use Rattle.expression_binder.specs.Scopes.{Item}
use Rattle.expression_binder.specs.declared.scope.Param.{Param}
use Rattle.cond_logic.specs.Asked.{SelectMeant}
use Rattle.sql_binder.specs.Selects.{bound_select, from_of}
use Rattle.sql_binder.specs.Values.{custom_select, values_of}
use Rattle.plan_tree.specs.Plans.{Planned, apart, plan_for, plan_tables, started_by, without_from}
use Rattle.plan_tree.specs.declared.planning.Planning.{Planning}
use Rattle.select_answer.specs.Answer.{answer_of, select_course}
use Rattle.select_answer.specs.Course.{Course, reads_of}
use Rattle.stores.specs.Events.{look_of}
use Rattle.statement_steps.specs.Made.{Made, Refused, made, halted}
use Rattle.statement_steps.specs.declared.caller.Caller.{Caller}
use Rattle.statement_steps.specs.Asks.{named, held_at, all_locked}
use Rattle.statement_steps.specs.Steps.{follow}
use Rattle.statement_steps.specs.Below.{number_of}
use Rattle.select_statement.specs.Cancels.{cancels_itself}
use Rattle.select_statement.specs.Items.{items_of}
use Rattle.select_statement.specs.declared.answered.Answered.{Answered}

-- ---- what is told

-- the answer, and the leaves that were read for it, in order
pub record Told : Type 0 where
  pub answer : Answer
  pub reads : List LeafId

abbrev pub told_by : Answered → Told
told_by a = record { answer = a.answer; reads = a.trail.leaves }

abbrev pub with_reads : List LeafId → Result Answer Fault → Result Told Fault
with_reads reads (Ok a) = Ok (record { answer = a; reads = reads })
with_reads reads (Err f) = Err f

-- of a course that came to its end
abbrev pub told_of : SelectMeant → Course → Result Told Fault
told_of m w = with_reads (reads_of w) (answer_of m w)

-- ---- the statement

-- nothing happens by it
abbrev pub outcome : {T : Type 0} → Result T Fault → Made T
outcome (Ok x) = made [] x
outcome (Err f) = halted [] (Refused f)

-- for a custom plan the values of parameters are put in their places; for a generic one they stay apart, and start it
abbrev pub asked_by : Planning → List Item → List Param → (session : ℕ) → SelectTree → Result SelectMeant Fault
asked_by how items params s t = if how.is_generic then bound_select items params s t else custom_select items params s t

abbrev pub values_by : Planning → List Param → List Value
values_by how params = values_of (apart how params)

-- names and kinds are bound, and constants evaluated
abbrev pub meant : Planning → List Param → Caller → SelectTree → List Item → History → Made SelectMeant
meant how params c t items h = outcome (asked_by how items params c.session t)

-- of the rows that the command's snapshot shows, by this plan; session 0 is the control session, which no process id names
abbrev pub answered : Caller → (args : List Value) → SelectMeant → Planned → History → Made Told
answered c args m plan h = outcome (told_of m (select_course (c.sessions - 1) args m (shown h (look_of h c.session c.cmd)) plan []))

-- unless it cancels itself
abbrev pub uncancelled : {T : Type 0} → Bool → (History → Made T) → History → Made T
uncancelled true f = λ h. halted [] (Refused statement_cancelled)
uncancelled false f = f

-- without FROM
abbrev pub bare_plan : SelectMeant → Planned
bare_plan m = plan_for without_from m.conditions []

abbrev pub bare : List Param → Caller → SelectTree → History → Made Told
bare params c t = follow (meant without_from params c t []) (λ m. uncancelled (cancels_itself c.session (c.sessions - 1) m) (answered c [] m (bare_plan m)))

-- these tables are locked, one after the other
abbrev pub locked_below : List (List ℕ) → Caller → List TableNo → History → Made (Unit {0})
locked_below names c tables = all_locked names c.session AccessShare (map number_of tables)

-- the tables under the named ones that lead to leaves of the plan are locked, and those of its leaves; then it is started and
-- run with these values of parameters
abbrev pub by_plan : Planning → List (List ℕ) → Caller → (args : List Value) → SelectMeant → Planned → History → Made Told
by_plan how names c args m plan = follow (locked_below names c (plan_tables plan)) (λ u. answered c args m (started_by how args plan))

-- what the names stand for and the trees are known
abbrev pub over : Planning → List (List ℕ) → List Param → Caller → SelectTree → List Item → List TableTree → History → Made Told
over how names params c t items trees = follow (meant how params c t items) (λ m. by_plan how names c (values_by how params) m (plan_for how m.conditions trees))

abbrev pub of_trees : Planning → List (List ℕ) → List Param → Caller → SelectTree → List TableTree → History → Made Told
of_trees how names params c t trees = over how names params c t (items_of 0 (from_of t) trees) trees

-- the trees of the tables of these numbers are those of the command's snapshot
abbrev pub trees_for : Caller → List ℕ → History → List TableTree
trees_for c ns h = map (λ n. tree_of h c.session n (look_of h c.session c.cmd)) ns

abbrev pub of_tables : Planning → List (List ℕ) → List Param → Caller → SelectTree → List ℕ → History → Made Told
of_tables how names params c t ns h = of_trees how names params c t (trees_for c ns h) h

-- the tables of the items are found and locked in text order, behind those that are
abbrev pub named_from : List (List ℕ) → Caller → (done : List ℕ) → List Joined → History → Made (List ℕ)
named_from names c done [] h = made [] done
named_from names c done (j ∷ js) h = follow (named names c.session AccessShare j.0.name) (λ n. named_from names c (done ++ n ∷ []) js) h

-- a transaction at REPEATABLE READ takes its snapshot before anything waits
abbrev pub begins : Caller → History → Made (Unit {0})
begins c = held_at c.level c.session c.cmd

abbrev pub of_named : Planning → List (List ℕ) → List Param → Caller → SelectTree → History → Made Told
of_named how names params c t = follow (named_from names c [] (from_of t)) (of_tables how names params c t)

abbrev pub of_items : Planning → List (List ℕ) → List Param → Caller → SelectTree → List Joined → History → Made Told
of_items how names params c t [] = follow (begins c) (λ u. bare params c t)
of_items how names params c t (j ∷ js) = follow (begins c) (λ u. of_named how names params c t)

-- of a session that plans so (`enable_partition_pruning`, `enable_hashjoin`, `enable_partitionwise_join`, and for a prepared statement `plan_cache_mode`)
abbrev pub selected : Planning → List (List ℕ) → List Param → Caller → SelectTree → History → Made Told
selected how names params c t = of_items how names params c t (from_of t)
