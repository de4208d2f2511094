-- What a SELECT does before it reads (the manual, SELECT; EXPLAIN): what it stands for is gathered, its plan is made, and what
-- the plan reads is locked. An EXPLAIN of the SELECT does the same.
use Rattle.std.specs.Prelude.{ℕ, ◌-◌, List, [], map}
use Rattle.pg_values.specs.declared.value.Value.{Value}
use Rattle.history.specs.History.{History}
use Rattle.row_router.specs.Seen.{seen}
use Rattle.row_router.specs.Trees.{TableTree}
use Rattle.expression_binder.specs.declared.scope.Param.{Param}
use Rattle.sql_ast.specs.Queries.{SelectTree}
use Rattle.sql_binder.specs.Selects.{from_of}
use Rattle.cond_logic.specs.Asked.{SelectMeant, select_meant}
use Rattle.plan_tree.specs.Plans.{Planned, plan_for, plan_tables, started_by, without_from}
use Rattle.plan_tree.specs.declared.planning.Planning.{Planning}
use Rattle.statement_steps.specs.Made.{Made, made}
use Rattle.statement_steps.specs.declared.caller.Caller.{Caller}
use Rattle.statement_steps.specs.Steps.{follow}
use Rattle.select_statement.specs.declared.gathered.Gathered.{Gathered}
use Rattle.select_statement.specs.Cancels.{cancels_itself}
use Rattle.select_statement.specs.Items.{items_of}
use Rattle.select_statement.specs.Selected.{meant, locked_below, trees_for, named_from, uncancelled}

-- what a SELECT asks for, and the trees of its tables
pub record Found : Type 0 where
  pub meant : SelectMeant
  pub trees : List TableTree

abbrev pub found_by : Gathered → Found
found_by g = record { meant = select_meant g.ask; trees = map seen g.trees }

abbrev pub found_over : Planning → List Param → Caller → SelectTree → List TableTree → History → Made Found
found_over how params c t trees = follow (meant how params c t (items_of 0 (from_of t) trees)) (λ m h. made [] (record { meant = m; trees = trees }))

-- over the trees of these tables, which the command's snapshot shows
abbrev pub found_in : Planning → List Param → Caller → SelectTree → List ℕ → History → Made Found
found_in how params c t ns h = found_over how params c t (trees_for c ns h) h

-- once the tables of its items are found and locked
abbrev pub gathered : Planning → List (List ℕ) → List Param → Caller → SelectTree → History → Made Found
gathered how names params c t = follow (named_from names c [] (from_of t)) (found_in how params c t)

-- without FROM, unless the SELECT cancels itself
abbrev pub found_bare : Caller → SelectMeant → History → Made Found
found_bare c m = uncancelled (cancels_itself c.session (c.sessions - 1) m) (λ h. made [] (record { meant = m; trees = [] }))

abbrev pub gathered_bare : List Param → Caller → SelectTree → History → Made Found
gathered_bare params c t = follow (meant without_from params c t []) (found_bare c)

-- the plan of what was found
abbrev pub plan_of : Planning → Found → Planned
plan_of how g = plan_for how g.meant.conditions g.trees

-- once the tables that lead to its leaves are locked it is started
abbrev pub planned_under : Planning → List (List ℕ) → Caller → (args : List Value) → Found → History → Made Planned
planned_under how names c args g = follow (locked_below names c (plan_tables (plan_of how g))) (λ u h. made [] (started_by how args (plan_of how g)))
