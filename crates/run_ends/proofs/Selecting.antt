-- SELECT and EXPLAIN.
use Rattle.std.proofs.Common.{◌<◌, ℕ, ◌+◌, ◌-◌, Bool, true, false, if◌then◌else◌, List, [], ◌∷◌, ◌++◌, None, Result, Ok, Err, All, map, flat_map}
use Rattle.std.proofs.lemmas.List.Elements.{All-nil, All-cons, All-head, All-tail, All-append, All-map, All-push}
use Rattle.pg_values.specs.declared.fault.Fault.{Fault}
use Rattle.pg_values.specs.declared.ids.TableNo.{TableNo}
use Rattle.pg_values.specs.declared.value.Value.{Value}
use Rattle.pg_values.specs.declared.lock_mode.LockMode.TheVariants.{AccessShare}
use Rattle.refusals.specs.Refusals.{statement_cancelled}
use Rattle.history.specs.History.{History}
use Rattle.row_router.specs.Trees.{TableTree}
use Rattle.row_router.specs.Histories.{tree_of}
use Rattle.row_change.specs.Ways.{AllTables}
use Rattle.plan_tree.specs.Conjuncts.{pool, asked_at, asked_later}
use Rattle.plan_tree.specs.Kept.{kept_tables}
use Rattle.plan_tree.specs.Laws.{shown}
use Rattle.plan_tree.specs.Plans.{Planned, plan_for, plan_tables, items_from, is_empty, keeps_first, started_by, without_from}
use Rattle.plan_tree.specs.declared.planning.Planning.{Planning}
use Rattle.sql_ast.specs.Queries.{Joined, SelectTree}
use Rattle.sql_binder.specs.Selects.{from_of}
use Rattle.expression_binder.specs.Scopes.{Item}
use Rattle.expression_binder.specs.declared.scope.Param.{Param}
use Rattle.cond_logic.specs.Asked.{SelectMeant}
use Rattle.cond_logic.specs.Trees.{CondTree}
use Rattle.select_answer.specs.Answer.{select_course}
use Rattle.stores.specs.Events.{look_of}
use Rattle.statement_steps.specs.Asks.{named}
use Rattle.statement_steps.specs.Made.{Made, made}
use Rattle.statement_steps.specs.Steps.{follow}
use Rattle.statement_steps.specs.Below.{number_of}
use Rattle.select_statement.specs.Cancels.{cancels_itself}
use Rattle.select_statement.specs.Explained.{analyzed, analyzed_bare, analyzed_items, analyzed_tables, explained, explains, printed, run_counted, run_over, told}
use Rattle.select_statement.specs.Gathered.{Found, found_bare, found_over, found_in, gathered, gathered_bare, plan_of, planned_under}
use Rattle.select_statement.specs.Items.{items_of}
use Rattle.select_statement.specs.Selected.{told_of, outcome, asked_by, meant, answered, uncancelled, bare, bare_plan, locked_below, by_plan, over, of_tables, trees_for, named_from, begins, of_named, of_items, selected, values_by}
use Rattle.run_ends.proofs.StatementParts.{Attempt, Now, Part, Parts, Gives, Any, made_part, refused_part, then_parts}
use Rattle.run_ends.proofs.Locks.{Low, all_locked_parts, named_parts, held_at_parts}
use Rattle.run_ends.proofs.Numbers.{IsLow, tree_low}
use Rattle.run_ends.proofs.Trees.{all_kept}

-- ---- what nothing happens by

outcome_part : {T : Type 0} (k : Attempt) (h : History) → Now k h → (r : Result T Fault) → Part k (Gives k Any) h (outcome r)
outcome_part k h now (Ok x) = made_part k (Gives k Any) h x now.may (now.still, tt)
outcome_part k h now (Err f) = refused_part k (Gives k Any) h f now.may

module _ (k : Attempt) (names : List (List ℕ)) (params : List Param) where
  meant_parts : (how : Planning) (t : SelectTree) (items : List Item) → Parts k (Gives k Any) (meant how params k.caller t items)
  meant_parts how t items h now = outcome_part k h now (asked_by how items params k.caller.session t)

  answered_parts : (args : List Value) (m : SelectMeant) (plan : Planned) → Parts k (Gives k Any) (answered k.caller args m plan)
  answered_parts args m plan h now = outcome_part k h now (told_of m (select_course (k.caller.sessions - 1) args m (shown h (look_of h k.caller.session k.caller.cmd)) plan []))

  uncancelled_parts : {T : Type 0} (b : Bool) (f : History → Made T) → Parts k (Gives k Any) f → Parts k (Gives k Any) (uncancelled b f)
  uncancelled_parts true f parts h now = refused_part k (Gives k Any) h statement_cancelled now.may
  uncancelled_parts false f parts h now = parts h now

  -- ---- the tables of the items

  -- these numbers are those of tables
  abbrev AreLow : List ℕ → Type 0
  AreLow ns = All (λ n. n < k.bound) ns

  named_from_parts : (js : List Joined) (done : List ℕ) → AreLow done → Parts k (Gives k AreLow) (named_from names k.caller done js)
  named_from_parts [] done low h now = made_part k (Gives k AreLow) h done now.may (now.still, low)
  named_from_parts (j ∷ js) done low h now =
      then_parts k (Low k) (Gives k AreLow) (named names k.caller.session AccessShare j.0.name) (λ n. named_from names k.caller (done ++ n ∷ []) js) (named_parts k names AccessShare j.0.name)
      (λ n lt. named_from_parts js (done ++ n ∷ []) (All-push (λ x. x < k.bound) done n low lt)) h now

  -- ---- their trees

  abbrev AreTrees : List TableTree → Type 0
  AreTrees trees = All (AllTables (IsLow k)) trees

  trees_low : (ns : List ℕ) → AreLow ns → (h : History) → Now k h → AreTrees (trees_for k.caller ns h)
  trees_low [] low h now = All-nil (AllTables (IsLow k))
  trees_low (n ∷ ns) low h now =
      All-cons (AllTables (IsLow k)) (tree_of h k.caller.session n (look_of h k.caller.session k.caller.cmd)) (trees_for k.caller ns h)
      (tree_low k h now k.caller.session n (look_of h k.caller.session k.caller.cmd) (All-head (λ x. x < k.bound) n ns low)) (trees_low ns (All-tail (λ x. x < k.bound) n ns low) h now)

  -- ---- what a plan locks

  items_low : (how : Planning) (n : ℕ) (cs : List CondTree) (trees : List TableTree) → AreTrees trees → All (IsLow k) (flat_map (λ i. i.tables) (items_from how n cs trees))
  items_low how n cs [] low = All-nil (IsLow k)
  items_low how n cs (t ∷ ts) low =
      All-append (IsLow k) (kept_tables (keeps_first how.prunes n (asked_at n cs)) t) (flat_map (λ i. i.tables) (items_from how (n + 1) (asked_later n cs) ts))
      (all_kept (IsLow k) (keeps_first how.prunes n (asked_at n cs)) t (All-head (AllTables (IsLow k)) t ts low)) (items_low how (n + 1) (asked_later n cs) ts (All-tail (AllTables (IsLow k)) t ts low))

  none_or : (b : Bool) (tables : List TableNo) → All (IsLow k) tables → All (IsLow k) (if b then [] else tables)
  none_or true tables all = All-nil (IsLow k)
  none_or false tables all = all

  plan_low : (how : Planning) (conditions : List CondTree) (trees : List TableTree) → AreTrees trees → All (IsLow k) (plan_tables (plan_for how conditions trees))
  plan_low how conditions trees low =
      none_or (is_empty (plan_for how conditions trees)) (flat_map (λ i. i.tables) (items_from how 0 (pool conditions) trees)) (items_low how 0 (pool conditions) trees low)

  locked_below_parts : (tables : List TableNo) → All (IsLow k) tables → Parts k (Gives k Any) (locked_below names k.caller tables)
  locked_below_parts tables low = all_locked_parts k names AccessShare (map number_of tables) (All-map (λ n. n < k.bound) number_of tables low)

  -- ---- SELECT

  by_plan_parts : (how : Planning) (args : List Value) (m : SelectMeant) (plan : Planned) → All (IsLow k) (plan_tables plan) → Parts k (Gives k Any) (by_plan how names k.caller args m plan)
  by_plan_parts how args m plan low =
      then_parts k Any (Gives k Any) (locked_below names k.caller (plan_tables plan)) (λ u. answered k.caller args m (started_by how args plan)) (locked_below_parts (plan_tables plan) low) (λ u any. answered_parts args m (started_by how args plan))

  over_parts : (how : Planning) (t : SelectTree) (items : List Item) (trees : List TableTree) → AreTrees trees → Parts k (Gives k Any) (over how names params k.caller t items trees)
  over_parts how t items trees low =
      then_parts k Any (Gives k Any) (meant how params k.caller t items) (λ m. by_plan how names k.caller (values_by how params) m (plan_for how m.conditions trees)) (meant_parts how t items)
      (λ m any. by_plan_parts how (values_by how params) m (plan_for how m.conditions trees) (plan_low how m.conditions trees low))

  of_tables_parts : (how : Planning) (t : SelectTree) (ns : List ℕ) → AreLow ns → Parts k (Gives k Any) (of_tables how names params k.caller t ns)
  of_tables_parts how t ns low h now = over_parts how t (items_of 0 (from_of t) (trees_for k.caller ns h)) (trees_for k.caller ns h) (trees_low ns low h now) h now

  of_named_parts : (how : Planning) (t : SelectTree) → Parts k (Gives k Any) (of_named how names params k.caller t)
  of_named_parts how t =
      then_parts k AreLow (Gives k Any) (named_from names k.caller [] (from_of t)) (of_tables how names params k.caller t) (named_from_parts (from_of t) [] (All-nil (λ n. n < k.bound))) (of_tables_parts how t)

  bare_parts : (t : SelectTree) → Parts k (Gives k Any) (bare params k.caller t)
  bare_parts t =
      then_parts k Any (Gives k Any) (meant without_from params k.caller t []) (λ m. uncancelled (cancels_itself k.caller.session (k.caller.sessions - 1) m) (answered k.caller [] m (bare_plan m))) (meant_parts without_from t [])
      (λ m any. uncancelled_parts (cancels_itself k.caller.session (k.caller.sessions - 1) m) (answered k.caller [] m (bare_plan m)) (answered_parts [] m (bare_plan m)))

  begins_parts : Parts k (Gives k Any) (begins k.caller)
  begins_parts = held_at_parts k k.caller.level k.caller.cmd

  of_items_parts : (how : Planning) (t : SelectTree) (js : List Joined) → Parts k (Gives k Any) (of_items how names params k.caller t js)
  of_items_parts how t [] = then_parts k Any (Gives k Any) (begins k.caller) (λ u. bare params k.caller t) begins_parts (λ u any. bare_parts t)
  of_items_parts how t (j ∷ js) = then_parts k Any (Gives k Any) (begins k.caller) (λ u. of_named how names params k.caller t) begins_parts (λ u any. of_named_parts how t)

  pub selected_parts : (how : Planning) (t : SelectTree) → Parts k (Gives k Any) (selected how names params k.caller t)
  selected_parts how t = of_items_parts how t (from_of t)

  -- ---- EXPLAIN

  abbrev HasTrees : Found → Type 0
  HasTrees g = AreTrees g.trees

  found_over_parts : (how : Planning) (t : SelectTree) (trees : List TableTree) → AreTrees trees → Parts k (Gives k HasTrees) (found_over how params k.caller t trees)
  found_over_parts how t trees low =
      then_parts k Any (Gives k HasTrees) (meant how params k.caller t (items_of 0 (from_of t) trees)) (λ m h. made [] (record { meant = m; trees = trees })) (meant_parts how t (items_of 0 (from_of t) trees))
      (λ m any h now. made_part k (Gives k HasTrees) h (record { meant = m; trees = trees }) now.may (now.still, low))

  found_in_parts : (how : Planning) (t : SelectTree) (ns : List ℕ) → AreLow ns → Parts k (Gives k HasTrees) (found_in how params k.caller t ns)
  found_in_parts how t ns low h now = found_over_parts how t (trees_for k.caller ns h) (trees_low ns low h now) h now

  gathered_parts : (how : Planning) (t : SelectTree) → Parts k (Gives k HasTrees) (gathered how names params k.caller t)
  gathered_parts how t =
      then_parts k AreLow (Gives k HasTrees) (named_from names k.caller [] (from_of t)) (found_in how params k.caller t) (named_from_parts (from_of t) [] (All-nil (λ n. n < k.bound))) (found_in_parts how t)

  planned_parts : (how : Planning) (g : Found) → HasTrees g → Parts k (Gives k Any) (planned_under how names k.caller (values_by how params) g)
  planned_parts how g low =
      then_parts k Any (Gives k Any) (locked_below names k.caller (plan_tables (plan_of how g))) (λ u h. made [] (started_by how (values_by how params) (plan_of how g)))
      (locked_below_parts (plan_tables (plan_of how g)) (plan_low how g.meant.conditions g.trees low)) (λ u any h now. made_part k (Gives k Any) h (started_by how (values_by how params) (plan_of how g)) now.may (now.still, tt))

  explained_parts : (how : Planning) (t : SelectTree) → Parts k (Gives k Any) (explained how names params k.caller t)
  explained_parts how t =
      then_parts k Any (Gives k Any) (begins k.caller) (λ u. follow (gathered how names params k.caller t) (λ g. follow (planned_under how names k.caller (values_by how params) g) (printed t g))) begins_parts
      (λ u any. then_parts k HasTrees (Gives k Any) (gathered how names params k.caller t) (λ g. follow (planned_under how names k.caller (values_by how params) g) (printed t g)) (gathered_parts how t)
      (λ g low. then_parts k Any (Gives k Any) (planned_under how names k.caller (values_by how params) g) (printed t g) (planned_parts how g low)
      (λ p any h now. made_part k (Gives k Any) h (told t g None p) now.may (now.still, tt))))

  -- ---- EXPLAIN ANALYZE reads as its SELECT does

  run_counted_parts : (args : List Value) (t : SelectTree) (g : Found) (p : Planned) → Parts k (Gives k Any) (run_counted k.caller args t g p)
  run_counted_parts args t g p h now = outcome_part k h now (run_over k.caller args t g p (shown h (look_of h k.caller.session k.caller.cmd)))

  found_bare_parts : (m : SelectMeant) → Parts k (Gives k Any) (found_bare k.caller m)
  found_bare_parts m =
      uncancelled_parts (cancels_itself k.caller.session (k.caller.sessions - 1) m) (λ h. made [] (record { meant = m; trees = [] }))
      (λ h now. made_part k (Gives k Any) h (record { meant = m; trees = [] }) now.may (now.still, tt))

  gathered_bare_parts : (t : SelectTree) → Parts k (Gives k Any) (gathered_bare params k.caller t)
  gathered_bare_parts t = then_parts k Any (Gives k Any) (meant without_from params k.caller t []) (found_bare k.caller) (meant_parts without_from t []) (λ m any. found_bare_parts m)

  analyzed_bare_parts : (t : SelectTree) → Parts k (Gives k Any) (analyzed_bare params k.caller t)
  analyzed_bare_parts t =
      then_parts k Any (Gives k Any) (gathered_bare params k.caller t) (λ g. run_counted k.caller [] t g (bare_plan g.meant)) (gathered_bare_parts t) (λ g any. run_counted_parts [] t g (bare_plan g.meant))

  analyzed_tables_parts : (how : Planning) (t : SelectTree) → Parts k (Gives k Any) (analyzed_tables how names params k.caller t)
  analyzed_tables_parts how t =
      then_parts k HasTrees (Gives k Any) (gathered how names params k.caller t) (λ g. follow (planned_under how names k.caller (values_by how params) g) (run_counted k.caller (values_by how params) t g)) (gathered_parts how t)
      (λ g low. then_parts k Any (Gives k Any) (planned_under how names k.caller (values_by how params) g) (run_counted k.caller (values_by how params) t g) (planned_parts how g low)
      (λ p any. run_counted_parts (values_by how params) t g p))

  analyzed_items_parts : (how : Planning) (t : SelectTree) (js : List Joined) → Parts k (Gives k Any) (analyzed_items how names params k.caller t js)
  analyzed_items_parts how t [] = analyzed_bare_parts t
  analyzed_items_parts how t (j ∷ js) = analyzed_tables_parts how t

  analyzed_parts : (how : Planning) (t : SelectTree) → Parts k (Gives k Any) (analyzed how names params k.caller t)
  analyzed_parts how t = then_parts k Any (Gives k Any) (begins k.caller) (λ u. analyzed_items how names params k.caller t (from_of t)) begins_parts (λ u any. analyzed_items_parts how t (from_of t))

  pub explains_parts : (analyze : Bool) (how : Planning) (t : SelectTree) → Parts k (Gives k Any) (explains analyze how names params k.caller t)
  explains_parts false how t = explained_parts how t
  explains_parts true how t = analyzed_parts how t
