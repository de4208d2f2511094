-- No column is set twice.
use Rattle.std.proofs.Common.{◌≡◌, ◌≢◌, ℕ, zero, suc, ◌+◌, ◌<◌, ◌||◌, min, Bool, true, false, List, [], ◌∷◌, ◌++◌, Option, Some, None, Result, Ok, Err, length, map, get_or, refl, sym, ap, subst, ◌∙◌, arith, true≢false}
use Rattle.std.proofs.lemmas.Grind.{common_steps}
use Rattle.std.proofs.lemmas.List.Folds.{list_any-append}
use Rattle.std.proofs.lemmas.List.Quantifiers.{position-Some}
use Rattle.std.proofs.lemmas.Slice.Eq.{bytes_eq-Decides}
use Rattle.std.specs.List.{list_any}
use Rattle.std.specs.Str.{bytes_eq}
use Rattle.pg_values.specs.declared.fault.Fault.{Fault}
use Rattle.sql_ast.specs.Expressions.{Tree, Trees}
use Rattle.sql_ast.specs.Queries.{Setting as Written}
use Rattle.cond_logic.specs.Scalars.{ScalarTree}
use Rattle.cond_logic.specs.Asked.{InsertMeant, ChangeMeant}
use Rattle.expression_binder.specs.declared.scope.Param.{Param}
use Rattle.expression_binder.specs.declared.scope.ScopeColumn.{ScopeColumn}
use Rattle.expression_binder.specs.Firsts.{fault_in}
use Rattle.expression_binder.specs.Scopes.{Item, Scope, is_called}
use Rattle.expression_binder.proofs.Firsts.{value_of}
use Rattle.sql_binder.specs.Inserts.{place_of, place_or, target_faults, column_faults, places_of, from_to, first_count, targets, named_faults, kinds_of, value_scope, all_values, insert_faults, bound_insert}
use Rattle.sql_binder.specs.Changes.{column_set, set_scope, where_scope, setting_faults, settings_faults, settings_constants, new_value, meant_if, settings_meant, where_faults, where_meaning, change_faults, bound_change}
use Rattle.binding_laws.specs.FittingAsks.{IsAbsent, ComeOnce}
use Rattle.binding_laws.proofs.Operands.{front_none, back_none}

-- ---- columns by their names

same_place : (cs : List ScopeColumn) (n m : List ℕ) (p : ℕ) → place_of cs n ≡ Some p → place_of cs m ≡ Some p → n ≡ m
same_place [] n m p a b = cc
same_place (c ∷ cs) n m p a b =
    let x = position-Some (is_called n) (c ∷ cs) p c a in
    let y = position-Some (is_called m) (c ∷ cs) p c b in
    let d = get_or (c ∷ cs) p c in
    sym ((bytes_eq-Decides d.name n).0 x.1) ∙ (bytes_eq-Decides d.name m).0 y.1

target_new : (b : Bool) (n : List ℕ) (o : Option ℕ) → target_faults b n o ≡ [] → (b ≡ false) × (o ≡ Some (place_or o))
target_new b n None h = cc
target_new true n (Some p) h = cc
target_new false n (Some p) h = (refl, refl)

last_stands : (n : List ℕ) (earlier : List (List ℕ)) → list_any (bytes_eq n) (earlier ++ n ∷ []) ≡ true
last_stands n earlier = let e = (bytes_eq-Decides n n).1 refl in grind (arith, common_steps, list_any-append (bytes_eq n) earlier (n ∷ []), e)

still_stands : (n m : List ℕ) (earlier : List (List ℕ)) → list_any (bytes_eq n) earlier ≡ true → list_any (bytes_eq n) (earlier ++ m ∷ []) ≡ true
still_stands n m earlier h = list_any-append (bytes_eq n) earlier (m ∷ []) ∙ ap (λ b. b || list_any (bytes_eq n) (m ∷ [])) h

module _ (cs : List ScopeColumn) where
  -- no name behind that of a column is the column's
  absent : (n : List ℕ) (p : ℕ) → place_of cs n ≡ Some p → (earlier ns : List (List ℕ)) → list_any (bytes_eq n) earlier ≡ true → column_faults cs earlier ns ≡ [] → IsAbsent p (places_of cs ns)
  absent n p at earlier [] stands none = tt
  absent n p at earlier (m ∷ ms) stands none =
      let own = target_faults (list_any (bytes_eq m) earlier) m (place_of cs m) in
      let new = target_new (list_any (bytes_eq m) earlier) m (place_of cs m) (front_none own _ none) in (
        λ same.
            let alike : n ≡ m = same_place cs n m p at (new.1 ∙ ap Some (sym same)) in
            true≢false (sym (subst (λ k. list_any (bytes_eq k) earlier ≡ true) alike stands) ∙ new.0),
        absent n p at (earlier ++ m ∷ []) ms (still_stands n m earlier stands) (back_none own _ none),
      )

  names_once : (earlier ns : List (List ℕ)) → column_faults cs earlier ns ≡ [] → ComeOnce (places_of cs ns)
  names_once earlier [] h = tt
  names_once earlier (n ∷ ns) h =
      let own = target_faults (list_any (bytes_eq n) earlier) n (place_of cs n) in
      let new = target_new (list_any (bytes_eq n) earlier) n (place_of cs n) (front_none own _ h) in
      let rest = back_none own _ h in
      (absent n (place_or (place_of cs n)) new.1 (earlier ++ n ∷ []) ns (last_stands n earlier) rest, names_once (earlier ++ n ∷ []) ns rest)

-- ---- the first columns

later : (p place n : ℕ) → p < place → IsAbsent p (from_to place n)
later p place zero h = tt
later p place (suc n) h = (λ same. absurd (omega (arith, same, h)), later p (place + 1) n (omega (arith, h)))

from_once : (place n : ℕ) → ComeOnce (from_to place n)
from_once place zero = tt
from_once place (suc n) = (later place (place + 1) n (omega arith), from_once (place + 1) n)

targets_once : (cs : List ScopeColumn) (names : Option (List (List ℕ))) (rows : List Trees) → named_faults cs names ≡ [] → ComeOnce (targets cs names rows)
targets_once cs None rows h = from_once 0 (min (first_count rows) (length cs))
targets_once cs (Some names) rows h = names_once cs [] names h

pub inserts_once : (columns : List ScopeColumn) (params : List Param) (session : ℕ) (names : Option (List (List ℕ))) (rows : List Trees) (m : InsertMeant) → bound_insert columns params session names rows ≡ Ok m → ComeOnce m.columns
inserts_once columns params session names rows m e =
    let ps = targets columns names rows in
    let p = value_of (insert_faults columns params session names rows) (record { columns = ps; rows = all_values (value_scope params session) (kinds_of columns ps) rows }) m e in
    subst (λ b. ComeOnce b.columns) p.1 (targets_once columns names rows (front_none (named_faults columns names) _ p.0))

-- ---- SET

both_none : (xs ys : List Fault) → xs ≡ [] → ys ≡ [] → xs ++ ys ≡ []
both_none xs ys a b = ap (λ zs. zs ++ ys) a ∙ b

module _ (item : Item) (s : Scope) where
  names_none : (earlier : List (List ℕ)) (ws : List Written) → settings_faults item s earlier ws ≡ [] → column_faults item.columns earlier (map column_set ws) ≡ []
  names_none earlier [] h = refl
  names_none earlier (w ∷ ws) h =
      let own = target_faults (list_any (bytes_eq w.0) earlier) w.0 (place_of item.columns w.0) in
      both_none own (column_faults item.columns (earlier ++ w.0 ∷ []) (map column_set ws)) (front_none own _ (front_none (setting_faults item s earlier w) _ h)) (names_none (earlier ++ w.0 ∷ []) ws (back_none (setting_faults item s earlier w) _ h))

  one_column : (place : ℕ) (r : Result ScalarTree Fault) (ws : List Written) → fault_in r ≡ [] → map (λ w. w.column) (meant_if place r ++ settings_meant item s ws) ≡ place ∷ map (λ w. w.column) (settings_meant item s ws)
  one_column place (Ok x) ws h = refl
  one_column place (Err f) ws h = cc

  columns_are : (ws : List Written) → settings_constants item s ws ≡ [] → map (λ w. w.column) (settings_meant item s ws) ≡ places_of item.columns (map column_set ws)
  columns_are [] h = refl
  columns_are (w ∷ ws) h =
      let place = place_or (place_of item.columns w.0) in
      one_column place (new_value item s w) ws (front_none (fault_in (new_value item s w)) _ h) ∙ ap (λ ps. place ∷ ps) (columns_are ws (back_none (fault_in (new_value item s w)) _ h))

pub changes_once : (item : Item) (params : List Param) (session : ℕ) (ws : List Written) (cond : Option Tree) (m : ChangeMeant) → bound_change item params session ws cond ≡ Ok m → ComeOnce (map (λ w. w.column) m.settings)
changes_once item params session ws cond m e =
    let s = set_scope item params session in
    let w = where_scope item params session in
    let p = value_of (change_faults item params session ws cond) (record { settings = settings_meant item s ws; condition = where_meaning w cond }) m e in
    let names = front_none (settings_faults item s [] ws ++ where_faults w cond) _ p.0 in
    let constants = back_none (settings_faults item s [] ws ++ where_faults w cond) _ p.0 in
    let once = names_once item.columns [] (map column_set ws) (names_none item s [] ws (front_none (settings_faults item s [] ws) _ names)) in
    subst (λ b. ComeOnce (map (λ v. v.column) b.settings)) p.1 (subst ComeOnce (sym (columns_are item s ws (front_none (settings_constants item s ws) _ constants))) once)
