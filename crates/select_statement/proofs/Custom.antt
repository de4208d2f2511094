-- With parameters a SELECT does what it does with their values written out.
use Rattle.std.proofs.Common.{◌≡◌, ℕ, ◌+◌, ◌-◌, Bool, ◌||◌, List, [], ◌∷◌, ◌++◌, refl, ap, sym, subst, ◌∙◌, append_assoc, map, None, is_some, Result, Ok, Err}
use Rattle.pg_values.specs.declared.fault.Fault.{Fault}
use Rattle.pg_values.specs.declared.lock_mode.LockMode.TheVariants.{AccessShare}
use Rattle.history.specs.History.{History}
use Rattle.row_router.specs.Trees.{TableTree}
use Rattle.cond_logic.specs.Asked.{SelectMeant}
use Rattle.expression_binder.specs.Scopes.{Item}
use Rattle.expression_binder.specs.declared.scope.Param.{Param}
use Rattle.sql_ast.specs.Queries.{Joined, SelectTree}
use Rattle.sql_ast.specs.declared.named_table.NamedTable.{NamedTable}
use Rattle.sql_binder.specs.From.{item_name}
use Rattle.sql_binder.specs.Selects.{from_of}
use Rattle.plan_tree.specs.Plans.{Planned, custom, plan_for}
use Rattle.plan_tree.specs.declared.planning.Planning.{Planning}
use Rattle.plan_text.specs.Plans.{plan_lines, plan_table}
use Rattle.plan_text.specs.declared.named_item.NamedItem.{NamedItem}
use Rattle.statement_steps.specs.Asks.{named}
use Rattle.statement_steps.specs.Made.{Made, Halt, made, behind, then_told, and_then}
use Rattle.statement_steps.specs.declared.caller.Caller.{Caller}
use Rattle.statement_steps.specs.Steps.{follow}
use Rattle.select_statement.specs.Cancels.{cancels_itself, cancelled_by, cancelled_over}
use Rattle.select_statement.specs.Custom.{table_in, tables_in, BindsAs, BindAlike, CustomSelects, CustomExplains, CustomCancels}
use Rattle.select_statement.specs.Explained.{named_item, named_items, offset_of, told, printed}
use Rattle.select_statement.specs.Gathered.{Found, found_in, gathered, planned_under}
use Rattle.select_statement.specs.Items.{item_of, items_of}
use Rattle.select_statement.specs.Selected.{outcome, meant, answered, uncancelled, bare, bare_plan, by_plan, over, of_tables, trees_for, named_from, begins, of_named, of_items}
use Rattle.select_statement.proofs.Straight.{follow_same}

-- ---- a part behind another one

-- where that one is done the two go on alike
then_alike : {T U : Type 0} (r : Result T Halt) (events : History) (next other : T → Made U) → ((x : T) → r ≡ Ok x → next x ≡ other x) → then_told r events next ≡ then_told r events other
then_alike (Ok x) events next other same = ap (behind events) (same x refl)
then_alike (Err e) events next other same = refl

pub follow_alike : {T U : Type 0} (f : History → Made T) (next other : T → History → Made U) (h : History) → ((x : T) → (f h).told ≡ Ok x → next x ((f h).events ++ h) ≡ other x ((f h).events ++ h)) → follow f next h ≡ follow f other h
follow_alike f next other h same = then_alike (f h).told (f h).events (λ x. next x ((f h).events ++ h)) (λ x. other x ((f h).events ++ h)) same

pub follow_from : {T U : Type 0} (f g : History → Made T) (next : T → History → Made U) (h : History) → f h ≡ g h → follow f next h ≡ follow g next h
follow_from {T = T} f g next h same = ap (λ (m : Made T). and_then m (λ x. next x (m.events ++ h))) same

-- where both are done, what the second tells is told, and its events stand before the first one's
pub both_done : {T U : Type 0} (m : Made T) (next : T → Made U) (x : T) (y : U) → m.told ≡ Ok x → (next x).told ≡ Ok y → ((and_then m next).told ≡ Ok y) × ((and_then m next).events ≡ (next x).events ++ m.events)
both_done {T = T} m next x y first second =
    subst (λ (r : Result T Halt). ((then_told r m.events next).told ≡ Ok y) × ((then_told r m.events next).events ≡ (next x).events ++ m.events)) (sym first) (second, refl)

-- ---- FROM, of which only the tables matter

abbrev plain_join : NamedTable → Joined
plain_join table = (table, None)

abbrev plain_joins : List Joined → List Joined
plain_joins js = map plain_join (map table_in js)

module _ (names : List (List ℕ)) (c : Caller) where
  named_plainly : (done : List ℕ) (js : List Joined) (h : History) → named_from names c done js h ≡ named_from names c done (plain_joins js) h
  named_plainly done [] h = refl
  named_plainly done (j ∷ js) h =
      follow_same (named names c.session AccessShare j.0.name) (λ n. named_from names c (done ++ n ∷ []) js) (λ n. named_from names c (done ++ n ∷ []) (plain_joins js)) h (λ n k. named_plainly (done ++ n ∷ []) js k)

  names_same : (js ks : List Joined) → map table_in js ≡ map table_in ks → (h : History) → named_from names c [] js h ≡ named_from names c [] ks h
  names_same js ks same h = named_plainly [] js h ∙ ap (λ ts. named_from names c [] (map plain_join ts) h) same ∙ sym (named_plainly [] ks h)

items_plainly : (n : ℕ) (js : List Joined) (trees : List TableTree) → items_of n js trees ≡ items_of n (plain_joins js) trees
items_plainly n [] trees = refl
items_plainly n (j ∷ js) [] = refl
items_plainly n (j ∷ js) (tree ∷ trees) = ap (λ is. item_of n (item_name j) tree ∷ is) (items_plainly (n + 1) js trees)

items_same : (js ks : List Joined) (trees : List TableTree) → map table_in js ≡ map table_in ks → items_of 0 js trees ≡ items_of 0 ks trees
items_same js ks trees same = items_plainly 0 js trees ∙ ap (λ ts. items_of 0 (map plain_join ts) trees) same ∙ sym (items_plainly 0 ks trees)

names_plainly : (js : List Joined) (trees : List TableTree) → named_items js trees ≡ named_items (plain_joins js) trees
names_plainly [] trees = refl
names_plainly (j ∷ js) [] = refl
names_plainly (j ∷ js) (tree ∷ trees) = ap (λ is. named_item j tree ∷ is) (names_plainly js trees)

named_same : (js ks : List Joined) (trees : List TableTree) → map table_in js ≡ map table_in ks → named_items js trees ≡ named_items ks trees
named_same js ks trees same = names_plainly js trees ∙ ap (λ ts. named_items (map plain_join ts) trees) same ∙ sym (names_plainly ks trees)

none_is_one : {P : Type 0} (l : Joined) (ks : List Joined) → [] ≡ table_in l ∷ map table_in ks → P
none_is_one l ks same = absurd (cc)

-- ---- the statement

module _ (how : Planning) (names : List (List ℕ)) (params : List Param) (c : Caller) (t u : SelectTree) (same : tables_in t ≡ tables_in u) where
  -- over the items of these tables the two bind alike
  abbrev BindsOver : History → List ℕ → Type 0
  BindsOver h ns = BindsAs params c.session t u (items_of 0 (from_of t) (trees_for c ns h))

  -- so behind the locks of FROM
  abbrev BindsBehind : History → Type 0
  BindsBehind h = let m = named_from names c [] (from_of t) h in (ns : List ℕ) → m.told ≡ Ok ns → BindsOver (m.events ++ h) ns

  binds_behind : (h : History) → BindAlike names params c t u h → (v : Unit {0}) → (begins c h).told ≡ Ok v → BindsBehind ((begins c h).events ++ h)
  binds_behind h alike v first ns second =
      let b = begins c h in
      let n = named_from names c [] (from_of t) (b.events ++ h) in
      let done = both_done b (λ x. named_from names c [] (from_of t) (b.events ++ h)) v ns first second in
      subst (λ (es : History). BindsOver es ns) (ap (λ (es : History). es ++ h) done.1 ∙ append_assoc n.events b.events h) (alike ns done.0)

  tables_alike : (h : History) (ns : List ℕ) → BindsOver h ns → of_tables (custom how) names params c t ns h ≡ of_tables (custom how) names [] c u ns h
  tables_alike h ns binds =
      let trees = trees_for c ns h in
      ap (λ (r : Result SelectMeant Fault). and_then (outcome r) (λ m. by_plan (custom how) names c [] m (plan_for (custom how) m.conditions trees) ((outcome r).events ++ h))) binds
      ∙ ap (λ (is : List Item). over (custom how) names [] c u is trees h) (items_same (from_of t) (from_of u) trees same)

  named_alike : (h : History) → BindsBehind h → of_named (custom how) names params c t h ≡ of_named (custom how) names [] c u h
  named_alike h binds =
      let f = named_from names c [] (from_of t) in
      follow_alike f (of_tables (custom how) names params c t) (of_tables (custom how) names [] c u) h (λ ns told. tables_alike ((f h).events ++ h) ns (binds ns told))
      ∙ follow_from f (named_from names c [] (from_of u)) (of_tables (custom how) names [] c u) h (names_same names c (from_of t) (from_of u) same h)

  bare_alike : (h : History) → BindsAs params c.session t u [] → bare params c t h ≡ bare [] c u h
  bare_alike h binds =
      ap (λ (r : Result SelectMeant Fault). and_then (outcome r) (λ m. uncancelled (cancels_itself c.session (c.sessions - 1) m) (answered c [] m (bare_plan m)) ((outcome r).events ++ h))) binds

  -- without FROM there is no item
  binds_bare : (h : History) → from_of t ≡ [] → BindsBehind h → BindsAs params c.session t u []
  binds_bare h none binds =
      let m = named_from names c [] (from_of t) h in
      subst (λ js. BindsAs params c.session t u (items_of 0 js (trees_for c [] (m.events ++ h)))) none (binds [] (ap (λ js. (named_from names c [] js h).told) none))

  items_alike : (js ks : List Joined) → from_of t ≡ js → from_of u ≡ ks → (h : History) → BindAlike names params c t u h → of_items (custom how) names params c t js h ≡ of_items (custom how) names [] c u ks h
  items_alike [] [] none other h alike =
      follow_alike (begins c) (λ v. bare params c t) (λ v. bare [] c u) h (λ v first. bare_alike ((begins c h).events ++ h) (binds_bare ((begins c h).events ++ h) none (binds_behind h alike v first)))
  items_alike (j ∷ js) (l ∷ ks) is other h alike =
      follow_alike (begins c) (λ v. of_named (custom how) names params c t) (λ v. of_named (custom how) names [] c u) h (λ v first. named_alike ((begins c h).events ++ h) (binds_behind h alike v first))
  items_alike [] (l ∷ ks) none other h alike = none_is_one l ks (sym (ap (map table_in) none) ∙ same ∙ ap (map table_in) other)
  items_alike (j ∷ js) [] is none h alike = none_is_one j js (sym (ap (map table_in) none) ∙ sym same ∙ ap (map table_in) is)

  -- ---- EXPLAIN

  abbrev found_with : List TableTree → SelectMeant → Made Found
  found_with trees m = made [] (record { meant = m; trees = trees })

  found_alike : (h : History) (ns : List ℕ) → BindsOver h ns → found_in (custom how) params c t ns h ≡ found_in (custom how) [] c u ns h
  found_alike h ns binds =
      let trees = trees_for c ns h in
      ap (λ (r : Result SelectMeant Fault). and_then (outcome r) (found_with trees)) binds
      ∙ ap (λ (is : List Item). follow (meant (custom how) [] c u is) (λ m k. found_with trees m) h) (items_same (from_of t) (from_of u) trees same)

  gathered_alike : (h : History) → BindsBehind h → gathered (custom how) names params c t h ≡ gathered (custom how) names [] c u h
  gathered_alike h binds =
      let f = named_from names c [] (from_of t) in
      follow_alike f (found_in (custom how) params c t) (found_in (custom how) [] c u) h (λ ns told. found_alike ((f h).events ++ h) ns (binds ns told))
      ∙ follow_from f (named_from names c [] (from_of u)) (found_in (custom how) [] c u) h (names_same names c (from_of t) (from_of u) same h)

  told_alike : is_some (offset_of t) ≡ is_some (offset_of u) → (g : Found) (p : Planned) → told t g None p ≡ told u g None p
  told_alike offsets g p =
      ap (λ (is : List NamedItem). plan_table (plan_lines is None (is_some (offset_of t) || is_some g.meant.limit) g.meant p)) (named_same (from_of t) (from_of u) g.trees same)
      ∙ ap (λ (b : Bool). plan_table (plan_lines (named_items (from_of u) g.trees) None (b || is_some g.meant.limit) g.meant p)) offsets

  explains_alike : is_some (offset_of t) ≡ is_some (offset_of u) → (h : History) → BindsBehind h
      → follow (gathered (custom how) names params c t) (λ g. follow (planned_under (custom how) names c [] g) (printed t g)) h ≡ follow (gathered (custom how) names [] c u) (λ g. follow (planned_under (custom how) names c [] g) (printed u g)) h
  explains_alike offsets h binds =
      follow_from (gathered (custom how) names params c t) (gathered (custom how) names [] c u) (λ g. follow (planned_under (custom how) names c [] g) (printed t g)) h (gathered_alike h binds)
      ∙ follow_same (gathered (custom how) names [] c u) (λ g. follow (planned_under (custom how) names c [] g) (printed t g)) (λ g. follow (planned_under (custom how) names c [] g) (printed u g)) h
      (λ g k. follow_same (planned_under (custom how) names c [] g) (printed t g) (printed u g) k (λ p i. ap (made []) (told_alike offsets g p)))

pub custom_selects : CustomSelects
custom_selects how names params c t u h same alike = items_alike how names params c t u same (from_of t) (from_of u) refl refl h alike

pub custom_explains : CustomExplains
custom_explains how names params c t u h same offsets alike =
    follow_alike (begins c) (λ v. follow (gathered (custom how) names params c t) (λ g. follow (planned_under (custom how) names c [] g) (printed t g))) (λ v. follow (gathered (custom how) names [] c u) (λ g. follow (planned_under (custom how) names c [] g) (printed u g))) h
    (λ v first. explains_alike how names params c t u same offsets ((begins c h).events ++ h) (binds_behind how names params c t u same h alike v first))

pub custom_cancels : CustomCancels
custom_cancels params session sessions t u same binds = by (from_of t) (from_of u) same
  where
    by : (js ks : List Joined) → map table_in js ≡ map table_in ks → cancelled_over params session sessions t js ≡ cancelled_over [] session sessions u ks
    by [] [] e = ap (cancelled_by session sessions) binds
    by (j ∷ js) (l ∷ ks) e = refl
    by [] (l ∷ ks) e = none_is_one l ks e
    by (j ∷ js) [] e = none_is_one j js (sym e)
