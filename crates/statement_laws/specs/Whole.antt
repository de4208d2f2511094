-- A whole SELECT, UPDATE or DELETE over all leaves of the trees of its tables (the manual, 5.11.4 Partition Pruning, with
-- pruning off), under the locks of one that reads by its plan.
use Rattle.std.specs.Prelude.{◌≡◌, ◌≤◌, ℕ, List, [], ◌∷◌, ◌++◌, Option, Some, Ok, length}
use Rattle.pg_values.specs.declared.answer.Answer.{Answer}
use Rattle.history.specs.Transactions.{open_of}
use Rattle.history.specs.History.{History, tx_events}
use Rattle.expression_binder.specs.declared.scope.Param.{Param}
use Rattle.sql_ast.specs.Expressions.{Tree}
use Rattle.sql_ast.specs.Queries.{Joined, SelectTree, Setting}
use Rattle.sql_ast.specs.declared.named_table.NamedTable.{NamedTable}
use Rattle.sql_binder.specs.Selects.{from_of}
use Rattle.stores.specs.Good.{IsGood}
use Rattle.stores.specs.Numbers.{IsAt}
use Rattle.statement_steps.specs.Asks.{held_at}
use Rattle.statement_steps.specs.Ended.{giving}
use Rattle.statement_steps.specs.Gathered.{Found}
use Rattle.statement_steps.specs.Made.{Made}
use Rattle.statement_steps.specs.Steps.{follow}
use Rattle.statement_steps.specs.declared.caller.Caller.{Caller}
use Rattle.statement_steps.specs.declared.rest.Rest.{Rest}
use Rattle.select_statement.specs.Plain.{answer_in, selected_plainly}
use Rattle.select_statement.specs.Selected.{Told, bare, begins, named_from, selected}
use Rattle.change_statement.specs.Changed.{Changing, Told as ChangeTold, begun_or_left, changed_on}
use Rattle.change_statement.specs.Deleted.{deleted, deleting}
use Rattle.change_statement.specs.Gathered.{gathered}
use Rattle.change_statement.specs.Laws.{plainly_changed}
use Rattle.change_statement.specs.Standing.{left_of}
use Rattle.change_statement.specs.Updated.{updated, updating}
use Rattle.plan_tree.specs.declared.planning.Planning.{Planning}

-- ---- SELECT

abbrev pub named_plainly : Planning → List (List ℕ) → List Param → Caller → SelectTree → History → Made Answer
named_plainly how names params c t = follow (named_from names c [] (from_of t)) (selected_plainly how names params c t)

abbrev pub items_plainly : Planning → List (List ℕ) → List Param → Caller → SelectTree → List Joined → History → Made Answer
items_plainly how names params c t [] = λ h. giving answer_in (follow (begins c) (λ u. bare params c t) h)
items_plainly how names params c t (j ∷ js) = follow (begins c) (λ u. named_plainly how names params c t)

abbrev pub all_selected : Planning → List (List ℕ) → List Param → Caller → SelectTree → History → Made Answer
all_selected how names params c t = items_plainly how names params c t (from_of t)

-- ---- UPDATE and DELETE, with how many rows they change

abbrev pub rows_in : ChangeTold → ℕ
rows_in t = t.rows

abbrev pub begun_plainly : (change : Found → Changing) → Planning → List (List ℕ) → List Param → Caller → NamedTable → List Setting → Option Tree → History → Made ℕ
begun_plainly change how names params c table settings condition =
    follow (held_at c.level c.session c.cmd) (λ u.
    follow (gathered how names params c table settings condition) (λ g. plainly_changed (change g) names c g))

-- one that goes on takes the rows that it has left
abbrev pub all_changed_by : (change : Found → Changing) → Planning → List (List ℕ) → List Param → Caller → Option Rest → NamedTable → List Setting → Option Tree → History → Made ℕ
all_changed_by change how names params c rest table settings condition h = begun_or_left (begun_plainly change how names params c table settings condition) (changed_on change names c) (left_of h c rest) h

abbrev pub all_updated : Planning → List (List ℕ) → List Param → Caller → Option Rest → NamedTable → List Setting → Option Tree → History → Made ℕ
all_updated how names params c = all_changed_by (λ g. updating c g) how names params c

abbrev pub all_deleted : Planning → List (List ℕ) → List Param → Caller → Option Rest → NamedTable → Option Tree → History → Made ℕ
all_deleted how names params c rest table condition = all_changed_by (λ g. deleting c) how names params c rest table [] condition

-- ---- what is said of a moment of a run

-- the caller's session has an open transaction, which comes to the caller's command
pub record IsCaller (c : Caller) (h : History) : Type 0 where
  pub tx : ℕ
  pub own : open_of (tx_events h) c.session ≡ Some tx
  pub at : IsAt h c.session c.cmd

-- a SELECT of up to four tables that has come to its end there made of the history before, and answered, what one does that
-- scans all leaves of the trees of its snapshot
abbrev pub CompletedSelectsArePlain : History → Type 0
CompletedSelectsArePlain h = (how : Planning) (names : List (List ℕ)) (params : List Param) (c : Caller) (t : SelectTree) (a : Told) (before : History)
    → h ≡ (selected how names params c t before).events ++ before → IsCaller c before → length (from_of t) ≤ 4 → (selected how names params c t before).told ≡ Ok a → giving answer_in (selected how names params c t before) ≡ all_selected how names params c t before

-- an UPDATE or a DELETE, from its beginning or from where it stood, made what one does over all leaves of its table's tree,
-- and changed as many rows
abbrev pub UpdatesArePlain : History → Type 0
UpdatesArePlain h = (how : Planning) (names : List (List ℕ)) (params : List Param) (c : Caller) (rest : Option Rest) (table : NamedTable) (settings : List Setting) (condition : Option Tree) (before : History)
    → h ≡ (updated how names params c rest table settings condition before).events ++ before → IsCaller c before → giving rows_in (updated how names params c rest table settings condition before) ≡ all_updated how names params c rest table settings condition before

abbrev pub DeletesArePlain : History → Type 0
DeletesArePlain h = (how : Planning) (names : List (List ℕ)) (params : List Param) (c : Caller) (rest : Option Rest) (table : NamedTable) (condition : Option Tree) (before : History)
    → h ≡ (deleted how names params c rest table condition before).events ++ before → IsCaller c before → giving rows_in (deleted how names params c rest table condition before) ≡ all_deleted how names params c rest table condition before

pub record WholeStatementsArePlain (h : History) : Type 0 where
  pub selects : CompletedSelectsArePlain h
  pub updates : UpdatesArePlain h
  pub deletes : DeletesArePlain h

abbrev pub EachWholeIsPlain : Type 0
EachWholeIsPlain = (h : History) → IsGood h → WholeStatementsArePlain h
