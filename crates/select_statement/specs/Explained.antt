-- What an EXPLAIN of a SELECT makes of a history (the manual, EXPLAIN): what the SELECT does before it reads, and then the text
-- of the plan in place of its answer. With ANALYZE it reads as the SELECT does, and each node tells what it gave.
use Rattle.std.specs.Prelude.{◌≡◌, ℕ, ◌-◌, Bool, true, false, ◌||◌, List, [], ◌∷◌, Option, Some, None, is_some, map, Result, Ok, Err}
use Rattle.pg_values.specs.declared.answer.Answer.{Answer}
use Rattle.pg_values.specs.declared.fault.Fault.{Fault}
use Rattle.pg_values.specs.declared.value.Value.{Value}
use Rattle.history.specs.declared.catalogue.Column.{Column}
use Rattle.history.specs.History.{History}
use Rattle.row_router.specs.Trees.{TableTree}
use Rattle.expression_binder.specs.declared.scope.Param.{Param}
use Rattle.sql_ast.specs.Expressions.{Tree}
use Rattle.sql_ast.specs.Queries.{Joined, SelectTree, selected as selects}
use Rattle.sql_binder.specs.From.{item_name}
use Rattle.sql_binder.specs.Selects.{from_of}
use Rattle.cond_logic.specs.Asked.{SelectMeant}
use Rattle.plan_tree.specs.Counts.{PlanCount}
use Rattle.plan_tree.specs.Kept.{id_of}
use Rattle.plan_tree.specs.Laws.{Rows, shown}
use Rattle.plan_tree.specs.Plans.{Planned, plan_by}
use Rattle.plan_tree.specs.declared.planning.Planning.{Planning}
use Rattle.select_answer.specs.Answer.{select_course}
use Rattle.select_answer.specs.Happenings.{counts_of}
use Rattle.select_answer.specs.Laws.{plan_reads}
use Rattle.plan_text.specs.declared.named_item.NamedItem.{NamedItem}
use Rattle.plan_text.specs.Plans.{plan_lines, plan_table, scanned}
use Rattle.stores.specs.Events.{look_of}
use Rattle.statement_steps.specs.Made.{Halt, Made, made}
use Rattle.statement_steps.specs.declared.caller.Caller.{Caller}
use Rattle.statement_steps.specs.Steps.{follow}
use Rattle.select_statement.specs.Gathered.{Found, gathered, gathered_bare, planned_under}
use Rattle.select_statement.specs.Items.{node_of}
use Rattle.select_statement.specs.Selected.{Told, answered, bare_plan, begins, outcome, selected, told_of, values_by}

-- ---- names

-- the items of FROM as the statement names them
abbrev pub column_name : Column → List ℕ
column_name c = c.name

abbrev pub named_item : Joined → TableTree → NamedItem
named_item j tree = record { name = item_name j; is_alias = is_some j.0.alias; columns = map column_name (node_of tree).columns }

abbrev pub named_items : List Joined → List TableTree → List NamedItem
named_items [] trees = []
named_items (j ∷ js) [] = []
named_items (j ∷ js) (tree ∷ trees) = named_item j tree ∷ named_items js trees

-- ---- the statement

-- an OFFSET cuts rows, and a LIMIT that is not null
abbrev pub offset_of : SelectTree → Option Tree
offset_of (selects ls from cond keys limit offset) = offset

abbrev pub is_cut : SelectTree → SelectMeant → Bool
is_cut t m = is_some (offset_of t) || is_some m.limit

-- of a plan that was run with what was counted of its nodes
abbrev pub told : SelectTree → Found → Option PlanCount → Planned → Answer
told t g counts p = plan_table (plan_lines (named_items (from_of t) g.trees) counts (is_cut t g.meant) g.meant p)

-- nothing happens by it
abbrev pub printed : SelectTree → Found → Planned → History → Made Answer
printed t g p h = made [] (told t g None p)

-- of a session that plans so
abbrev pub explained : Planning → List (List ℕ) → List Param → Caller → SelectTree → History → Made Answer
explained how names params c t = follow (begins c) (λ u. follow (gathered how names params c t) (λ g. follow (planned_under how names c (values_by how params) g) (printed t g)))

-- ---- ANALYZE

-- the text of the plan in the place of the answer, or what the SELECT is refused with
abbrev pub counted : SelectTree → Found → Planned → (Answer → PlanCount) → Result Told Fault → Result Answer Fault
counted t g p counts (Ok a) = Ok (told t g (Some (counts a.answer)) p)
counted t g p counts (Err f) = Err f

-- over these rows
abbrev pub run_over : Caller → (args : List Value) → SelectTree → Found → Planned → Rows → Result Answer Fault
run_over c args t g p rows = counted t g p (counts_of args rows p) (told_of g.meant (select_course (c.sessions - 1) args g.meant rows p []))

-- the plan is run over the rows that the command's snapshot shows
abbrev pub run_counted : Caller → (args : List Value) → SelectTree → Found → Planned → History → Made Answer
run_counted c args t g p h = outcome (run_over c args t g p (shown h (look_of h c.session c.cmd)))

-- without FROM, unless it cancels itself
abbrev pub analyzed_bare : List Param → Caller → SelectTree → History → Made Answer
analyzed_bare params c t = follow (gathered_bare params c t) (λ g. run_counted c [] t g (bare_plan g.meant))

abbrev pub analyzed_tables : Planning → List (List ℕ) → List Param → Caller → SelectTree → History → Made Answer
analyzed_tables how names params c t = follow (gathered how names params c t) (λ g. follow (planned_under how names c (values_by how params) g) (run_counted c (values_by how params) t g))

abbrev pub analyzed_items : Planning → List (List ℕ) → List Param → Caller → SelectTree → List Joined → History → Made Answer
analyzed_items how names params c t [] = analyzed_bare params c t
analyzed_items how names params c t (j ∷ js) = analyzed_tables how names params c t

abbrev pub analyzed : Planning → List (List ℕ) → List Param → Caller → SelectTree → History → Made Answer
analyzed how names params c t = follow (begins c) (λ u. analyzed_items how names params c t (from_of t))

-- with ANALYZE, or without
abbrev pub explains : (analyze : Bool) → Planning → List (List ℕ) → List Param → Caller → SelectTree → History → Made Answer
explains false = explained
explains true = analyzed

-- ---- the plan that is printed is the one that runs

-- a SELECT of tables gathers and plans as its EXPLAIN does, and then reads by that plan
abbrev pub run : Planning → List (List ℕ) → List Param → Caller → SelectTree → History → Made Told
run how names params c t = follow (begins c) (λ u. follow (gathered how names params c t) (λ g. follow (planned_under how names c (values_by how params) g) (λ p. answered c (values_by how params) g.meant p)))

abbrev pub SelectsRunTheirPlan : Type 0
SelectsRunTheirPlan = (how : Planning) (names : List (List ℕ)) (params : List Param) (c : Caller) (t : SelectTree) (j : Joined) (js : List Joined) (h : History) → from_of t ≡ j ∷ js → selected how names params c t h ≡ run how names params c t h

-- of one table the leaves under the scans of the plan are those that are read, each once, in order
abbrev pub OneTableReadsItsScans : Type 0
OneTableReadsItsScans = (how : Planning) (args : List Value) (m : SelectMeant) (rows : Rows) (tree : TableTree) → plan_reads how args m rows (tree ∷ []) ≡ map id_of (scanned (plan_by how args m.conditions (tree ∷ [])))

-- ---- ANALYZE runs the SELECT

-- it makes of a history what the SELECT makes of it, but for what is told: the same happens by it, and it waits and is refused
-- where the SELECT waits and is refused
abbrev pub unit_told : {T : Type 0} → Result T Halt → Result (Unit {0}) Halt
unit_told (Ok x) = Ok tt
unit_told (Err stop) = Err stop

abbrev pub untold : {T : Type 0} → Made T → Made (Unit {0})
untold m = record { events = m.events; told = unit_told m.told }

abbrev pub AnalyzesRunTheirSelect : Type 0
AnalyzesRunTheirSelect = (how : Planning) (names : List (List ℕ)) (params : List Param) (c : Caller) (t : SelectTree) (h : History) → untold (analyzed how names params c t h) ≡ untold (selected how names params c t h)
