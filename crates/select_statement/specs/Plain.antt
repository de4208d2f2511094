-- A SELECT that scans all leaves of its tables (the manual, SELECT; 5.11.4 Partition Pruning, with pruning off), under the
-- locks of one that reads by its plan.
use Rattle.std.specs.Prelude.{ℕ, ◌-◌, List}
use Rattle.pg_values.specs.declared.answer.Answer.{Answer}
use Rattle.pg_values.specs.declared.value.Value.{Value}
use Rattle.history.specs.History.{History}
use Rattle.row_router.specs.Trees.{TableTree}
use Rattle.plan_tree.specs.Laws.{shown}
use Rattle.expression_binder.specs.declared.scope.Param.{Param}
use Rattle.sql_ast.specs.Queries.{SelectTree}
use Rattle.sql_binder.specs.Selects.{from_of}
use Rattle.cond_logic.specs.Asked.{SelectMeant}
use Rattle.plan_tree.specs.Plans.{plan_for, plan_tables}
use Rattle.plan_tree.specs.declared.planning.Planning.{Planning}
use Rattle.select_answer.specs.Laws.{plainly}
use Rattle.stores.specs.Events.{look_of}
use Rattle.statement_steps.specs.Made.{Made}
use Rattle.statement_steps.specs.declared.caller.Caller.{Caller}
use Rattle.statement_steps.specs.Steps.{follow}
use Rattle.select_statement.specs.Items.{items_of}
use Rattle.select_statement.specs.Selected.{Told, outcome, meant, locked_below, trees_for, values_by}

-- the answer alone
abbrev pub answer_in : Told → Answer
answer_in t = t.answer

-- of the rows of all leaves that the command's snapshot shows
abbrev pub answered_plainly : Caller → (args : List Value) → SelectMeant → List TableTree → History → Made Answer
answered_plainly c args m trees h = outcome (plainly (c.sessions - 1) args m (shown h (look_of h c.session c.cmd)) trees)

-- the tables that the plan reads are locked
abbrev pub locked_plainly : Planning → List (List ℕ) → Caller → (args : List Value) → List TableTree → SelectMeant → History → Made Answer
locked_plainly how names c args trees m = follow (locked_below names c (plan_tables (plan_for how m.conditions trees))) (λ u. answered_plainly c args m trees)

-- of these tables, which are found and locked
abbrev pub selected_plainly : Planning → List (List ℕ) → List Param → Caller → SelectTree → List ℕ → History → Made Answer
selected_plainly how names params c t ns h = follow (meant how params c t (items_of 0 (from_of t) (trees_for c ns h))) (locked_plainly how names c (values_by how params) (trees_for c ns h)) h
