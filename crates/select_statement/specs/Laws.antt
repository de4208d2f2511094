-- What holds of every SELECT of a run.
use Rattle.std.specs.Prelude.{◌≡◌, ◌≤◌, ◌<◌, ℕ, ◌⊎◌, All, List, [], ◌∷◌, length}
use Rattle.pg_values.specs.declared.value.Value.{Value}
use Rattle.pg_values.specs.declared.which.Which.TheVariants.{Scans}
use Rattle.refusals.specs.Refusals.{too_many}
use Rattle.history.specs.Catalogue.{tables_made}
use Rattle.history.specs.Snapshots.{TakenSnapshot}
use Rattle.history.specs.History.{History, catalogue_events}
use Rattle.history.specs.Legal.{IsLegal}
use Rattle.row_store.specs.declared.TheConstants.{SCAN_LIMIT}
use Rattle.row_router.specs.Histories.{tree_of}
use Rattle.row_router.specs.Trees.{leaves}
use Rattle.soundness.specs.Worlds.{IsMade}
use Rattle.soundness.specs.Legal.{ArePermitted}
use Rattle.soundness.specs.Laws.{IsLooking}
use Rattle.plan_tree.specs.Laws.{shown}
use Rattle.expression_binder.specs.declared.scope.Param.{Param}
use Rattle.sql_ast.specs.Queries.{SelectTree}
use Rattle.cond_logic.specs.Asked.{SelectMeant}
use Rattle.plan_tree.specs.Plans.{plan_by}
use Rattle.plan_tree.specs.declared.planning.Planning.{Planning}
use Rattle.select_answer.specs.Laws.{plan_reads}
use Rattle.stores.specs.Events.{look_of}
use Rattle.stores.specs.Good.{IsGood}
use Rattle.statement_steps.specs.Ended.{giving}
use Rattle.statement_steps.specs.Made.{Refused, halted}
use Rattle.statement_steps.specs.declared.caller.Caller.{Caller}
use Rattle.select_statement.specs.Selected.{answered, of_tables, trees_for}
use Rattle.select_statement.specs.Plain.{answer_in, answered_plainly, selected_plainly}

-- a tree has no more leaves than there are tables
abbrev pub LeavesAreFew : Type 0
LeavesAreFew = (h : History) (session table : ℕ) (s : TakenSnapshot) → IsLegal h → ArePermitted h → IsMade (catalogue_events h) table
    → length (leaves (tree_of h session table s)) ≤ length (tables_made (catalogue_events h))

-- the caller's command reads under a snapshot that its session has open, or could take
abbrev pub Looks : Caller → History → Type 0
Looks c h = IsLooking h c.session (look_of h c.session c.cmd)

-- a SELECT of one table makes of the history, and answers, what a SELECT does that scans all leaves
abbrev pub OneTableIsPlainIn : History → Type 0
OneTableIsPlainIn h = (how : Planning) (names : List (List ℕ)) (params : List Param) (c : Caller) (t : SelectTree) (table : ℕ) → Looks c h → IsMade (catalogue_events h) table
    → giving answer_in (of_tables how names params c t (table ∷ []) h) ≡ selected_plainly how names params c t (table ∷ []) h

-- in each history of a run
abbrev pub OneTableIsPlain : Type 0
OneTableIsPlain = (h : History) → IsGood h → OneTableIsPlainIn h

-- the answer by the plan over several tables is the plain one too, or the plan makes more scans than a statement may: then
-- that is the fault
abbrev pub IsPlainOrTooMuch : Planning → Caller → (args : List Value) → SelectMeant → List ℕ → History → Type 0
IsPlainOrTooMuch how c args m ns h =
    (giving answer_in (answered c args m (plan_by how args m.conditions (trees_for c ns h)) h) ≡ answered_plainly c args m (trees_for c ns h) h)
    ⊎ ((SCAN_LIMIT < length (plan_reads how args m (shown h (look_of h c.session c.cmd)) (trees_for c ns h)))
    × (answered c args m (plan_by how args m.conditions (trees_for c ns h)) h ≡ halted [] (Refused (too_many Scans))))

abbrev pub TablesArePlainIn : History → Type 0
TablesArePlainIn h = (how : Planning) (c : Caller) (args : List Value) (m : SelectMeant) (ns : List ℕ) → Looks c h → length ns ≤ 4 → All (IsMade (catalogue_events h)) ns → IsPlainOrTooMuch how c args m ns h

abbrev pub TablesArePlain : Type 0
TablesArePlain = (h : History) → IsGood h → TablesArePlainIn h
