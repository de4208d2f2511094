-- Parts that are grouped in another way.
use Rattle.std.proofs.Common.{◌≡◌, ℕ, List, [], ◌∷◌, ◌++◌, refl, ap, sym, ◌∙◌, append_assoc, append-nil, Result, Ok, Err}
use Rattle.pg_values.specs.declared.value.Value.{Value}
use Rattle.history.specs.History.{History}
use Rattle.row_router.specs.Trees.{TableTree}
use Rattle.expression_binder.specs.declared.scope.Param.{Param}
use Rattle.sql_ast.specs.Queries.{Joined, SelectTree}
use Rattle.sql_binder.specs.Selects.{from_of}
use Rattle.cond_logic.specs.Asked.{SelectMeant}
use Rattle.plan_tree.specs.Plans.{plan_for, plan_tables, started_by}
use Rattle.plan_tree.specs.declared.planning.Planning.{Planning}
use Rattle.stores.specs.Stand.{Stands}
use Rattle.stores.specs.declared.stores.Stores.{Stores}
use Rattle.statement_steps.specs.Made.{Made, Halt, made, behind, then_told, and_then}
use Rattle.statement_steps.specs.declared.caller.Caller.{Caller}
use Rattle.statement_steps.specs.declared.stop.Stop.{Stop}
use Rattle.statement_steps.specs.Steps.{IsStep, follow}
use Rattle.select_statement.specs.Explained.{SelectsRunTheirPlan}
use Rattle.select_statement.specs.Gathered.{Found, found_in, found_over, gathered, planned_under}
use Rattle.statement_steps.proofs.Steps.{same_step}
use Rattle.select_statement.specs.Items.{items_of}
use Rattle.select_statement.specs.declared.answered.Answered.{Answered}
use Rattle.select_statement.specs.Selected.{Told, meant, answered, locked_below, by_plan, of_trees, of_tables, trees_for, named_from, begins, of_named, of_items, values_by}

-- ---- parts that are grouped in another way

-- what comes behind a part is the same
then_same : {T U : Type 0} (r : Result T Halt) (events : History) (next other : T → Made U) → ((x : T) → next x ≡ other x) → then_told r events next ≡ then_told r events other
then_same (Ok x) events next other same = ap (behind events) (same x)
then_same (Err e) events next other same = refl

pub follow_same : {T U : Type 0} (f : History → Made T) (next other : T → History → Made U) (h : History) → ((x : T) (k : History) → next x k ≡ other x k) → follow f next h ≡ follow f other h
follow_same f next other h same = then_same (f h).told (f h).events (λ x. next x ((f h).events ++ h)) (λ x. other x ((f h).events ++ h)) (λ x. same x ((f h).events ++ h))

-- a part by which nothing happens
pub follow_made : {T U : Type 0} (x : T) (next : T → History → Made U) (h : History) → follow (λ k. made [] x) next h ≡ next x h
follow_made x next h = let m = next x h in ap (λ es. record { events = es; told = m.told }) (append-nil m.events)

-- one part behind another, and a third behind both
told_again : {T U : Type 0} (r : Result T Halt) (second first h : History) (next : T → History → Made U)
    → then_told r (second ++ first) (λ y. next y ((second ++ first) ++ h)) ≡ behind first (then_told r second (λ y. next y (second ++ (first ++ h))))
told_again (Ok y) second first h next =
    ap (λ k. behind (second ++ first) (next y k)) (append_assoc second first h)
    ∙ (let m = next y (second ++ (first ++ h)) in ap (λ es. record { events = es; told = m.told }) (sym (append_assoc m.events second first)))
told_again (Err e) second first h next = refl

behind_again : {S T U : Type 0} (r : Result S Halt) (first h : History) (g : S → History → Made T) (next : T → History → Made U)
    → and_then (then_told r first (λ x. g x (first ++ h))) (λ y. next y ((then_told r first (λ x. g x (first ++ h))).events ++ h)) ≡ then_told r first (λ x. follow (g x) next (first ++ h))
behind_again (Ok x) first h g next = told_again (g x (first ++ h)).told (g x (first ++ h)).events first h next
behind_again (Err e) first h g next = refl

pub follow_again : {S T U : Type 0} (f : History → Made S) (g : S → History → Made T) (next : T → History → Made U) (h : History) → follow (follow f g) next h ≡ follow f (λ x. follow (g x) next) h
follow_again f g next h = behind_again (f h).told (f h).events h g next

-- ---- a SELECT of tables gathers, plans and reads

module _ (how : Planning) (names : List (List ℕ)) (params : List Param) (c : Caller) (t : SelectTree) where
  -- what starts the plan
  abbrev args : List Value
  args = values_by how params

  planned : (m : SelectMeant) (trees : List TableTree) (h : History) → follow (planned_under how names c args (record { meant = m; trees = trees })) (answered c args m) h ≡ by_plan how names c args m (plan_for how m.conditions trees) h
  planned m trees h =
      let p = plan_for how m.conditions trees in
      let q = started_by how args p in
      follow_again (locked_below names c (plan_tables p)) (λ u k. made [] q) (answered c args m) h
      ∙ follow_same (locked_below names c (plan_tables p)) (λ u. follow (λ k. made [] q) (answered c args m)) (λ u. answered c args m q) h (λ u k. follow_made q (answered c args m) k)

  found : (trees : List TableTree) (h : History)
      → follow (found_over how params c t trees) (λ g. follow (planned_under how names c args g) (λ p. answered c args g.meant p)) h ≡ of_trees how names params c t trees h
  found trees h =
      let f = meant how params c t (items_of 0 (from_of t) trees) in
      let next : Found → History → Made Told = λ g. follow (planned_under how names c args g) (λ p. answered c args g.meant p) in
      follow_again f (λ m k. made [] (record { meant = m; trees = trees })) next h
      ∙ follow_same f (λ m. follow (λ k. made [] (record { meant = m; trees = trees })) next) (λ m. by_plan how names c args m (plan_for how m.conditions trees)) h
      (λ m k. follow_made (record { meant = m; trees = trees }) next k ∙ planned m trees k)

  pub runs : (h : History) → follow (gathered how names params c t) (λ g. follow (planned_under how names c args g) (λ p. answered c args g.meant p)) h ≡ of_named how names params c t h
  runs h =
      let f = named_from names c [] (from_of t) in
      let next : Found → History → Made Told = λ g. follow (planned_under how names c args g) (λ p. answered c args g.meant p) in
      follow_again f (found_in how params c t) next h
      ∙ follow_same f (λ ns. follow (found_in how params c t ns) next) (of_tables how names params c t) h (λ ns k. found (trees_for c ns k) k)

  pub runs_step : {view : Answered → Told} {r : Result Answered Stop} {old new : Stores} {n : ℕ}
      → IsStep view r old new c n (follow (gathered how names params c t) (λ g. follow (planned_under how names c args g) (λ p. answered c args g.meant p))) → IsStep view r old new c n (of_named how names params c t)
  runs_step {view = view} {r = r} {old = old} {new = new} {n = n} step =
      same_step view r old new c n (of_named how names params c t) (follow (gathered how names params c t) (λ g. follow (planned_under how names c args g) (λ p. answered c args g.meant p))) (λ h stands. sym (runs h)) step

-- with FROM
with_from : (how : Planning) (names : List (List ℕ)) (params : List Param) (c : Caller) (t : SelectTree) (from : List Joined) (j : Joined) (js : List Joined) (h : History) → from ≡ j ∷ js
    → of_items how names params c t from h ≡ follow (begins c) (λ u. of_named how names params c t) h
with_from how names params c t from j js h is = ap (λ l. of_items how names params c t l h) is

pub run_their_plan : SelectsRunTheirPlan
run_their_plan how names params c t j js h is =
    with_from how names params c t (from_of t) j js h is
    ∙ follow_same (begins c) (λ u. of_named how names params c t) (λ u. follow (gathered how names params c t) (λ g. follow (planned_under how names c (values_by how params) g) (λ p. answered c (values_by how params) g.meant p))) h (λ u k. sym (runs how names params c t k))

-- ---- what is found over the trees that were read

pub found_step : {X : Type 0} {view : X → Found} {r : Result X Stop} (how : Planning) (params : List Param) (c : Caller) (t : SelectTree) (ns : List ℕ) (trees : List TableTree) (old new : Stores) (k : ℕ) → ((h : History) → Stands old h → trees ≡ trees_for c ns h)
    → IsStep view r old new c k (found_over how params c t trees) → IsStep view r old new c k (found_in how params c t ns)
found_step {view = view} {r = r} how params c t ns trees old new k are step =
    same_step view r old new c k (found_in how params c t ns) (found_over how params c t trees) (λ h stands. ap (λ x. found_over how params c t x h) (sym (are h stands))) step
