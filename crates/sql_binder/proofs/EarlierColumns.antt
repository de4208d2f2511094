-- Columns that may not be set twice: one step along a list.
use Rattle.std.proofs.Common.{ℕ, ◌+◌, ◌<◌, ◌≡◌, List, [], ◌∷◌, ◌++◌, map, take, drop, length, get_or, Ok, Err, sym, ap, subst, ◌∙◌, map-id}
use Rattle.std.proofs.lemmas.List.{map-append}
use Rattle.std.specs.List.{list_any}
use Rattle.std.specs.Str.{bytes_eq}
use Rattle.pg_values.specs.Refusals.{IsAnswer}
use Rattle.pg_values.specs.declared.fault.Fault.{Fault}
use Rattle.pg_values.specs.declared.fault.Refusal.{Refusal}
use Rattle.expression_binder.specs.Firsts.{or_first}
use Rattle.expression_binder.proofs.Firsts.{none_found, here}
use Rattle.expression_binder.specs.declared.scope.ScopeColumn.{ScopeColumn}
use Rattle.expression_binder.specs.Scopes.{Item, Scope}
use Rattle.expression_binder.proofs.Lists.{earlier_step, later_step}
use Rattle.sql_ast.specs.declared.changes.Assignment.{Assignment}
use Rattle.sql_ast.specs.Queries.{setting}
use Rattle.sql_binder.specs.Changes.{column_set, setting_faults, settings_faults}
use Rattle.sql_binder.specs.Inserts.{place_of, target_faults, column_faults}

pub column_step : (columns : List ScopeColumn) (xs : List (List ℕ)) (i : ℕ) (x : List ℕ) → i < length xs → x ≡ get_or xs i x
    → column_faults columns (take i xs) (drop i xs) ≡ target_faults (list_any (bytes_eq x) (take i xs)) x (place_of columns x) ++ column_faults columns (take (i + 1) xs) (drop (i + 1) xs)
column_step columns xs i x within is =
    let same = λ (ys : List (List ℕ)). map-id ys in
    let later : drop i xs ≡ x ∷ drop (i + 1) xs = sym (same (drop i xs)) ∙ (later_step (λ y. y) xs i x within is ∙ ap (λ ys. x ∷ ys) (same (drop (i + 1) xs))) in
    let earlier : take (i + 1) xs ≡ take i xs ++ x ∷ [] = sym (same (take (i + 1) xs)) ∙ (earlier_step (λ y. y) xs i x within is ∙ ap (λ ys. ys ++ x ∷ []) (same (take i xs))) in
    ap (column_faults columns (take i xs)) later
    ∙ ap (λ ns. target_faults (list_any (bytes_eq x) (take i xs)) x (place_of columns x) ++ column_faults columns ns (drop (i + 1) xs)) (sym earlier)

abbrev pub set_names : List Assignment → List (List ℕ)
set_names xs = map column_set (map setting xs)

pub setting_step : (item : Item) (s : Scope) (xs : List Assignment) (i : ℕ) (x : Assignment) → i < length xs → x ≡ get_or xs i x
    → settings_faults item s (set_names (take i xs)) (map setting (drop i xs)) ≡ setting_faults item s (set_names (take i xs)) (setting x) ++ settings_faults item s (set_names (take (i + 1) xs)) (map setting (drop (i + 1) xs))
setting_step item s xs i x within is =
    let before = set_names (take i xs) in
    let behind = map setting (drop (i + 1) xs) in
    let earlier : set_names (take (i + 1) xs) ≡ before ++ x.column ∷ [] = ap (map column_set) (earlier_step setting xs i x within is) ∙ map-append column_set (map setting (take i xs)) (setting x ∷ []) in
    ap (settings_faults item s before) (later_step setting xs i x within is) ∙ ap (λ ns. setting_faults item s before (setting x) ++ settings_faults item s ns behind) (sym earlier)

module _ (item : Item) (s : Scope) (xs : List Assignment) (i : ℕ) (x : Assignment) (within : i < length xs) (is : x ≡ get_or xs i x) (all : List Fault)
    (so_far : settings_faults item s (set_names (take i xs)) (map setting (drop i xs)) ≡ all) where
  -- the first fault of a setting is that of all
  pub settings_stop : (e : Refusal) → IsAnswer {T = Unit {0}} (Err e) (or_first (setting_faults item s (set_names (take i xs)) (setting x)) tt) → IsAnswer {T = Unit {0}} (Err e) (or_first all tt)
  settings_stop e h =
      let own = setting_faults item s (set_names (take i xs)) (setting x) in
      let rest = settings_faults item s (set_names (take (i + 1) xs)) (map setting (drop (i + 1) xs)) in
      subst (λ fs. IsAnswer {T = Unit {0}} (Err e) (or_first fs tt)) (sym (setting_step item s xs i x within is) ∙ so_far) (here e own rest tt tt h)

  -- and where it has none the rest decides
  pub settings_go : (v : Unit {0}) → or_first (setting_faults item s (set_names (take i xs)) (setting x)) tt ≡ Ok v → settings_faults item s (set_names (take (i + 1) xs)) (map setting (drop (i + 1) xs)) ≡ all
  settings_go v h =
      let own = setting_faults item s (set_names (take i xs)) (setting x) in
      let rest = settings_faults item s (set_names (take (i + 1) xs)) (map setting (drop (i + 1) xs)) in
      ap (λ fs. fs ++ rest) (sym (none_found own tt v h)) ∙ (sym (setting_step item s xs i x within is) ∙ so_far)
