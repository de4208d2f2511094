-- A custom plan is made of the statement with its values in place (the manual, PREPARE, Notes): with parameters a SELECT does
-- what it does with their values written out, wherever the two bind alike.
use Rattle.std.specs.Prelude.{◌≡◌, ℕ, ◌++◌, List, [], Ok, is_some, map}
use Rattle.pg_values.specs.declared.value.Value.{Value}
use Rattle.history.specs.History.{History}
use Rattle.expression_binder.specs.Scopes.{Item}
use Rattle.expression_binder.specs.declared.scope.Param.{Param}
use Rattle.sql_ast.specs.Queries.{Joined, SelectTree}
use Rattle.sql_ast.specs.declared.named_table.NamedTable.{NamedTable}
use Rattle.sql_binder.specs.Selects.{from_of}
use Rattle.sql_binder.specs.Values.{custom_select, with_values}
use Rattle.cond_logic.specs.Asked.{SelectMeant}
use Rattle.row_router.specs.Trees.{TableTree}
use Rattle.plan_tree.specs.Laws.{Rows}
use Rattle.plan_tree.specs.Plans.{custom}
use Rattle.plan_tree.specs.declared.planning.Planning.{Planning}
use Rattle.select_answer.specs.Laws.{plainly}
use Rattle.statement_steps.specs.Made.{Made}
use Rattle.statement_steps.specs.declared.caller.Caller.{Caller}
use Rattle.statement_steps.specs.Steps.{follow}
use Rattle.select_statement.specs.Cancels.{cancelled}
use Rattle.select_statement.specs.Explained.{explained, offset_of}
use Rattle.select_statement.specs.Items.{items_of}
use Rattle.select_statement.specs.Selected.{begins, named_from, selected, trees_for}

-- ---- two SELECTs, one with parameters and one without

-- the tables of FROM; of a join the condition may differ, since parameters stand in it
abbrev pub table_in : Joined → NamedTable
table_in j = j.0

abbrev pub tables_in : SelectTree → List NamedTable
tables_in t = map table_in (from_of t)

-- over these items they mean the same, or have the same fault
abbrev pub BindsAs : List Param → (session : ℕ) → (t u : SelectTree) → List Item → Type 0
BindsAs params s t u items = custom_select items params s t ≡ custom_select items [] s u

-- the tables of FROM are found and locked
abbrev pub located : List (List ℕ) → Caller → SelectTree → History → Made (List ℕ)
located names c t = follow (begins c) (λ u. named_from names c [] (from_of t))

-- where these are found, the names of the statement stand for the same
abbrev pub BindAlike : List (List ℕ) → List Param → Caller → (t u : SelectTree) → History → Type 0
BindAlike names params c t u h =
    let m = located names c t h in
    (ns : List ℕ) → m.told ≡ Ok ns → BindsAs params c.session t u (items_of 0 (from_of t) (trees_for c ns (m.events ++ h)))

-- ---- they do the same

abbrev pub CustomSelects : Type 0
CustomSelects = (how : Planning) (names : List (List ℕ)) (params : List Param) (c : Caller) (t u : SelectTree) (h : History)
    → tables_in t ≡ tables_in u → BindAlike names params c t u h → selected (custom how) names params c t h ≡ selected (custom how) names [] c u h

-- so do their EXPLAINs, where both have an OFFSET or neither has
abbrev pub CustomExplains : Type 0
CustomExplains = (how : Planning) (names : List (List ℕ)) (params : List Param) (c : Caller) (t u : SelectTree) (h : History)
    → tables_in t ≡ tables_in u → is_some (offset_of t) ≡ is_some (offset_of u) → BindAlike names params c t u h → explained (custom how) names params c t h ≡ explained (custom how) names [] c u h

-- and they cancel the same waits
abbrev pub CustomCancels : Type 0
CustomCancels = (params : List Param) (session sessions : ℕ) (t u : SelectTree) → tables_in t ≡ tables_in u → BindsAs params session t u [] → cancelled params session sessions t ≡ cancelled [] session sessions u

-- ---- and a generic plan answers what they do

-- the plain answer with these values of parameters is that with the values in their places
abbrev pub PlainWithValues : Type 0
PlainWithValues = (sessions : ℕ) (args : List Value) (m : SelectMeant) (rows : Rows) (trees : List TableTree) → plainly sessions args m rows trees ≡ plainly sessions [] (with_values args m) rows trees
