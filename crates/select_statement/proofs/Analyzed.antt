-- EXPLAIN ANALYZE runs the SELECT.
use Rattle.std.proofs.Common.{◌≡◌, ℕ, ◌+◌, ◌-◌, Bool, true, false, List, [], ◌∷◌, ◌++◌, ◌==◌, length, map, refl, ap, sym, ◌∙◌, subst, arith, Some, Result, Ok, Err}
use Rattle.std.proofs.lemmas.Bool.Decides.{nat_tests}
use Rattle.pg_values.specs.declared.answer.Answer.{Answer}
use Rattle.pg_values.specs.declared.fault.Fault.{Fault}
use Rattle.pg_values.specs.declared.value.Value.{Value}
use Rattle.history.specs.History.{History}
use Rattle.cond_logic.specs.Asked.{SelectMeant}
use Rattle.expression_binder.specs.declared.scope.Param.{Param}
use Rattle.plan_tree.specs.Counts.{PlanCount}
use Rattle.plan_tree.specs.Laws.{shown}
use Rattle.plan_tree.specs.Plans.{Planned, without_from}
use Rattle.plan_tree.specs.declared.planning.Planning.{Planning}
use Rattle.select_answer.specs.Answer.{select_course}
use Rattle.select_answer.specs.Happenings.{counts_of}
use Rattle.sql_ast.specs.Queries.{Joined, SelectTree}
use Rattle.sql_binder.specs.Selects.{from_of}
use Rattle.stores.specs.Events.{look_of}
use Rattle.stores.specs.Stand.{Stands}
use Rattle.stores.specs.declared.stores.Stores.{Stores}
use Rattle.statement_steps.specs.Attempts.{MayAttempt}
use Rattle.statement_steps.specs.Made.{Made, Halt, made, behind, then_told, and_then}
use Rattle.statement_steps.specs.declared.caller.Caller.{Caller}
use Rattle.statement_steps.specs.declared.stop.Stop.{Stop}
use Rattle.statement_steps.specs.Steps.{IsTold, IsStep, follow}
use Rattle.statement_steps.proofs.Numbers.{one_later}
use Rattle.statement_steps.proofs.Parts.{still_on}
use Rattle.statement_steps.proofs.Steps.{same_step, stops}
use Rattle.select_statement.specs.Cancels.{cancels_itself}
use Rattle.select_statement.specs.Explained.{told, counted, run_counted, analyzed_bare, analyzed_items, analyzed_tables, untold, AnalyzesRunTheirSelect}
use Rattle.select_statement.specs.Gathered.{Found, found_bare, gathered, gathered_bare, planned_under}
use Rattle.select_statement.specs.Selected.{Told, told_by, told_of, outcome, meant, answered, uncancelled, bare, bare_plan, begins, of_items, of_named, values_by}
use Rattle.select_statement.specs.declared.answered.Answered.{Answered}
use Rattle.select_statement.proofs.Straight.{follow_same, follow_made, follow_again, runs}

-- ---- a plan that is run

-- the text behind what is told of the run
abbrev told_behind : SelectTree → Found → Planned → (Answer → PlanCount) → Told → Made Answer
told_behind t g p counts x = made [] (told t g (Some (counts x.answer)) p)

counted_behind : (t : SelectTree) (g : Found) (p : Planned) (counts : Answer → PlanCount) (r : Result Told Fault) → outcome (counted t g p counts r) ≡ and_then (outcome r) (told_behind t g p counts)
counted_behind t g p counts (Ok x) = refl
counted_behind t g p counts (Err f) = refl

quiet : {T : Type 0} (r : Result T Fault) → (outcome r).events ≡ []
quiet (Ok x) = refl
quiet (Err f) = refl

counted_told : (t : SelectTree) (g : Found) (p : Planned) (counts : Answer → PlanCount) (r : Result Told Fault) (x : Told) → (outcome r).told ≡ Ok x → outcome (counted t g p counts r) ≡ told_behind t g p counts x
counted_told t g p counts r x is =
    counted_behind t g p counts r ∙ ap (λ (s : Result Told Halt). then_told s (outcome r).events (told_behind t g p counts)) is ∙ ap (λ (es : History). behind es (told_behind t g p counts x)) (quiet r)

module _ (caller : Caller) (args : List Value) (t : SelectTree) (g : Found) (p : Planned) where
  abbrev counts_at : History → Answer → PlanCount
  counts_at h = counts_of args (shown h (look_of h caller.session caller.cmd)) p

  -- what the run gives at a history
  abbrev given_at : History → Result Told Fault
  given_at h = told_of g.meant (select_course (caller.sessions - 1) args g.meant (shown h (look_of h caller.session caller.cmd)) p [])

  pub run_done : (a : Answered) (x : Answer) (counts : PlanCount) (stores : Stores) → MayAttempt stores caller → IsStep told_by (Ok a) stores stores caller (caller.cmd + 1) (answered caller args g.meant p)
      → ((h : History) → Stands stores h → counts ≡ counts_at h a.answer) → x ≡ told t g (Some counts) p → IsStep (λ (y : Answer). y) (Ok x) stores stores caller (caller.cmd + 1) (run_counted caller args t g p)
  run_done a x counts stores may step are is = record {
    is = λ h stands at.
        let same = counted_told t g p (counts_at h) (given_at h) (told_by a) (step.is h stands at).0 ∙ ap (λ (k : PlanCount). made [] (told t g (Some k) p)) (sym (are h stands)) ∙ ap (made []) (sym is) in
        subst (IsTold (λ (y : Answer). y) (Ok x) stores caller (caller.cmd + 1) h) (sym same)
        (refl, still_on stores h caller.session (caller.cmd + 1) stands (one_later h caller.session caller.cmd at));
    keeps = step.keeps;
    waits = step.waits;
  }

  pub run_stops : (e : Stop) (stores : Stores) → IsStep told_by (Err e) stores stores caller (caller.cmd + 1) (answered caller args g.meant p) → IsStep (λ (y : Answer). y) (Err e) stores stores caller (caller.cmd + 1) (run_counted caller args t g p)
  run_stops e stores step =
      same_step (λ (y : Answer). y) (Err e) stores stores caller (caller.cmd + 1) (run_counted caller args t g p) (follow (answered caller args g.meant p) (λ x h. told_behind t g p (counts_of args (shown h (look_of h caller.session caller.cmd)) p) x))
      (λ h stands. run_behind h) (stops (answered caller args g.meant p) (λ x h. told_behind t g p (counts_of args (shown h (look_of h caller.session caller.cmd)) p) x) step)
    where
      by : (r : Result Told Fault) (h : History) → outcome (counted t g p (counts_at h) r) ≡ and_then (outcome r) (λ x. told_behind t g p (counts_at ((outcome r).events ++ h)) x)
      by (Ok x) h = refl
      by (Err f) h = refl

      run_behind : (h : History) → run_counted caller args t g p h ≡ follow (answered caller args g.meant p) (λ x k. told_behind t g p (counts_at k) x) h
      run_behind h = by (given_at h) h

  -- but for what is told it is the answer
  run_untold : (h : History) → untold (run_counted caller args t g p h) ≡ untold (answered caller args g.meant p h)
  run_untold h = by (given_at h)
    where
      by : (r : Result Told Fault) → untold (outcome (counted t g p (counts_at h) r)) ≡ untold (outcome r)
      by (Ok x) = refl
      by (Err f) = refl

-- ---- without FROM

module _ (params : List Param) (c : Caller) (t : SelectTree) where
  abbrev pub bare_found : SelectMeant → Found
  bare_found m = record { meant = m; trees = [] }

  abbrev pub bare_answered : Found → History → Made Told
  bare_answered g = answered c [] g.meant (bare_plan g.meant)

  found_then : (own : Bool) (m : SelectMeant) (h : History) → follow (uncancelled own (λ k. made [] (bare_found m))) bare_answered h ≡ uncancelled own (answered c [] m (bare_plan m)) h
  found_then true m h = refl
  found_then false m h = follow_made (bare_found m) bare_answered h

  pub bare_runs : (h : History) → follow (gathered_bare params c t) bare_answered h ≡ bare params c t h
  bare_runs h =
      let f = meant without_from params c t [] in
      follow_again f (found_bare c) bare_answered h
      ∙ follow_same f (λ m. follow (found_bare c m) bare_answered) (λ m. uncancelled (cancels_itself c.session (c.sessions - 1) m) (answered c [] m (bare_plan m))) h
      (λ m k. found_then (cancels_itself c.session (c.sessions - 1) m) m k)

  pub bare_step : {view : Answered → Told} {r : Result Answered Stop} {old new : Stores} {n : ℕ} → IsStep view r old new c n (follow (gathered_bare params c t) bare_answered) → IsStep view r old new c n (bare params c t)
  bare_step {view = view} {r = r} {old = old} {new = new} {n = n} step = same_step view r old new c n (bare params c t) (follow (gathered_bare params c t) bare_answered) (λ h stands. sym (bare_runs h)) step

-- ---- it makes of a history what the SELECT makes of it

then_untold : {S T U : Type 0} (r : Result S Halt) (events : History) (next : S → Made T) (other : S → Made U) → ((x : S) → untold (next x) ≡ untold (other x)) → untold (then_told r events next) ≡ untold (then_told r events other)
then_untold (Ok x) events next other same = ap (behind events) (same x)
then_untold (Err e) events next other same = refl

follow_untold : {S T U : Type 0} (f : History → Made S) (next : S → History → Made T) (other : S → History → Made U) (h : History) → ((x : S) (k : History) → untold (next x k) ≡ untold (other x k)) → untold (follow f next h) ≡ untold (follow f other h)
follow_untold f next other h same = then_untold (f h).told (f h).events (λ x. next x ((f h).events ++ h)) (λ x. other x ((f h).events ++ h)) (λ x. same x ((f h).events ++ h))

module _ (how : Planning) (names : List (List ℕ)) (params : List Param) (c : Caller) (t : SelectTree) where
  bare_untold : (h : History) → untold (analyzed_bare params c t h) ≡ untold (bare params c t h)
  bare_untold h =
      follow_untold (gathered_bare params c t) (λ g. run_counted c [] t g (bare_plan g.meant)) (λ g. answered c [] g.meant (bare_plan g.meant)) h (λ g k. run_untold c [] t g (bare_plan g.meant) k)
      ∙ ap untold (bare_runs params c t h)

  tables_untold : (h : History) → untold (analyzed_tables how names params c t h) ≡ untold (of_named how names params c t h)
  tables_untold h =
      let args = values_by how params in
      follow_untold (gathered how names params c t) (λ g. follow (planned_under how names c args g) (run_counted c args t g)) (λ g. follow (planned_under how names c args g) (λ p. answered c args g.meant p)) h
      (λ g k. follow_untold (planned_under how names c args g) (run_counted c args t g) (λ p. answered c args g.meant p) k (λ p i. run_untold c args t g p i))
      ∙ ap untold (runs how names params c t h)

  items_untold : (from : List Joined) (h : History) → untold (follow (begins c) (λ u. analyzed_items how names params c t from) h) ≡ untold (of_items how names params c t from h)
  items_untold [] h = follow_untold (begins c) (λ u. analyzed_bare params c t) (λ u. bare params c t) h (λ u k. bare_untold k)
  items_untold (j ∷ js) h = follow_untold (begins c) (λ u. analyzed_tables how names params c t) (λ u. of_named how names params c t) h (λ u k. tables_untold k)

pub run_their_select : AnalyzesRunTheirSelect
run_their_select how names params c t h = items_untold how names params c t (from_of t) h

-- ---- by whether there is a FROM

module _ (how : Planning) (names : List (List ℕ)) (params : List Param) (c : Caller) (t : SelectTree) where
  pub items_none : {X : Type 0} (f : X → Joined) (items : List X) (r : Result Answer Stop) (old new : Stores) (n : ℕ) → (length items == 0) ≡ true
      → IsStep (λ (y : Answer). y) r old new c n (analyzed_bare params c t) → IsStep (λ (y : Answer). y) r old new c n (analyzed_items how names params c t (map f items))
  items_none f [] r old new n none step = step
  items_none f (x ∷ xs) r old new n none step = absurd (let empty : length (x ∷ xs) ≡ 0 = grind (arith, nat_tests, none) in omega (arith, empty))

  pub items_some : {X : Type 0} (f : X → Joined) (items : List X) (r : Result Answer Stop) (old new : Stores) (n : ℕ) → (length items == 0) ≡ false
      → IsStep (λ (y : Answer). y) r old new c n (analyzed_tables how names params c t) → IsStep (λ (y : Answer). y) r old new c n (analyzed_items how names params c t (map f items))
  items_some f [] r old new n some step = absurd (cc)
  items_some f (x ∷ xs) r old new n some step = step
