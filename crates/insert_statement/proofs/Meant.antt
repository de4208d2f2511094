-- The rows of VALUES are told at once.
use Rattle.std.proofs.Common.{◌≡◌, ℕ, List, ap, sym, subst, ◌∙◌, Option, Result, Ok, Err, map}
use Rattle.pg_values.specs.Refusals.{IsAnswer}
use Rattle.pg_values.specs.declared.value.Value.{Value}
use Rattle.pg_values.specs.declared.fault.Fault.{Fault}
use Rattle.pg_values.specs.declared.fault.Refusal.{Refusal}
use Rattle.pg_values.specs.declared.fault.Refusal.TheVariants.{Sql, NoMemory}
use Rattle.pg_values.specs.declared.ids.TableNo.{TableNo}
use Rattle.history.specs.declared.catalogue.Column.{Column}
use Rattle.history.specs.History.{History}
use Rattle.part_catalog.specs.Found.{made_at}
use Rattle.part_catalog.specs.Stands.{CatalogueStands}
use Rattle.sql_ast.specs.Expressions.{Trees}
use Rattle.expression_binder.specs.Firsts.{IsAnswerBy}
use Rattle.expression_binder.specs.declared.scope.Param.{Param}
use Rattle.cond_logic.specs.Asked.{InsertMeant, insert_meant}
use Rattle.cond_logic.specs.declared.insert.InsertAsk.{InsertAsk}
use Rattle.row_change.specs.FullRows.{full_row}
use Rattle.stores.specs.declared.stores.Stores.{Stores}
use Rattle.statement_steps.specs.Attempts.{MayAttempt}
use Rattle.statement_steps.specs.declared.caller.Caller.{Caller}
use Rattle.statement_steps.specs.Faults.{stop_of}
use Rattle.statement_steps.specs.Steps.{IsStep}
use Rattle.statement_steps.proofs.Parts.{answered_done, answered_refused}
use Rattle.insert_statement.specs.Inserted.{whole, whole_rows, rows_meant}

-- ---- a value for each column

pub whole_done : (width : ℕ) (values : InsertAsk) (asked : Result InsertMeant Fault) (rows : List (List Value)) → asked ≡ Ok (insert_meant values) → rows ≡ map (full_row width values.columns) values.rows → whole width asked ≡ Ok rows
whole_done width values asked rows is are = ap (whole width) is ∙ ap Ok (sym are)

pub whole_refused : {X : Type 0} (see : X → List (List Value)) (width : ℕ) (r : Refusal) (asked : Result InsertMeant Fault) → IsAnswerBy insert_meant (Err r) asked → IsAnswerBy see (Err r) (whole width asked)
whole_refused see width (Sql f) asked is = ap (whole width) is
whole_refused see width NoMemory asked is = tt

refused_as : {X : Type 0} (see : X → List (List Value)) (r : Refusal) (asked : Result (List (List Value)) Fault) → IsAnswerBy see (Err r) asked → IsAnswer {T = List (List Value)} (Err r) asked
refused_as see (Sql f) asked is = is
refused_as see NoMemory asked is = tt

-- ---- the part

-- the columns are those of the table
abbrev pub AreColumns : Stores → TableNo → List Column → Type 0
AreColumns stores t columns = (h : History) → CatalogueStands stores.catalog h → columns ≡ (made_at h t.number).columns

pub rows_done : {X : Type 0} (see : X → List (List Value)) (rows : X) (stores : Stores) (caller : Caller) (t : TableNo) (columns : List Column) (params : List Param) (names : Option (List (List ℕ))) (values : List Trees) → MayAttempt stores caller → AreColumns stores t columns
    → whole_rows columns params caller.session names values ≡ Ok (see rows) → IsStep see (Ok rows) stores stores caller caller.cmd (rows_meant params caller.session t.number names values)
rows_done see rows stores caller t columns params names values may are is =
    answered_done see rows stores caller (λ h. whole_rows (made_at h t.number).columns params caller.session names values) may (λ h stands. ap (λ cs. whole_rows cs params caller.session names values) (sym (are h stands.all.catalog)) ∙ is)

pub rows_refused : {X : Type 0} (see : X → List (List Value)) (r : Refusal) (stores : Stores) (caller : Caller) (t : TableNo) (columns : List Column) (params : List Param) (names : Option (List (List ℕ))) (values : List Trees) → MayAttempt stores caller → AreColumns stores t columns
    → IsAnswerBy see (Err r) (whole_rows columns params caller.session names values) → IsStep see (Err (stop_of r)) stores stores caller caller.cmd (rows_meant params caller.session t.number names values)
rows_refused see r stores caller t columns params names values may are is =
    answered_refused see r stores caller caller.cmd (λ h. whole_rows (made_at h t.number).columns params caller.session names values) may
    (λ h stands. subst (λ cs. IsAnswer {T = List (List Value)} (Err r) (whole_rows cs params caller.session names values)) (are h stands.all.catalog) (refused_as see r (whole_rows columns params caller.session names values) is))
