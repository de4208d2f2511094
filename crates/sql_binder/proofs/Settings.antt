-- The settings that are made, and one more.
use Rattle.std.proofs.Common.{ℕ, ◌+◌, ◌<◌, ◌≡◌, List, [], ◌∷◌, ◌++◌, map, drop, length, get_or, sym, ap, ◌∙◌, append_assoc, Ok}
use Rattle.pg_values.specs.declared.fault.Fault.{Fault}
use Rattle.expression_binder.specs.Firsts.{or_first, fault_in}
use Rattle.expression_binder.specs.Scopes.{Item, Scope}
use Rattle.expression_binder.proofs.Firsts.{value_of}
use Rattle.sql_ast.specs.declared.changes.Assignment.{Assignment}
use Rattle.sql_ast.specs.Queries.{setting}
use Rattle.sql_binder.specs.Changes.{new_value, meant_if, settings_constants, settings_meant}
use Rattle.cond_logic.specs.Asked.{SettingMeant}
use Rattle.sql_binder.specs.Inserts.{place_of, place_or}
use Rattle.expression_binder.proofs.Lists.{later_step}

module _ (item : Item) (s : Scope) (xs : List Assignment) (i : ℕ) (x : Assignment) (y : SettingMeant) (within : i < length xs) (is : x ≡ get_or xs i x)
    (h : or_first (fault_in (new_value item s (setting x))) (meant_if (place_or (place_of item.columns x.column)) (new_value item s (setting x))) ≡ Ok (y ∷ [])) where
  pub faults_next : (all : List Fault) → settings_constants item s (map setting (drop i xs)) ≡ all → settings_constants item s (map setting (drop (i + 1) xs)) ≡ all
  faults_next all so_far =
      let p = value_of (fault_in (new_value item s (setting x))) (meant_if (place_or (place_of item.columns x.column)) (new_value item s (setting x))) (y ∷ []) h in
      let rest = settings_constants item s (map setting (drop (i + 1) xs)) in
      sym (ap (settings_constants item s) (later_step setting xs i x within is) ∙ ap (λ fs. fs ++ rest) p.0) ∙ so_far

  pub made_next : (old new all : List SettingMeant) → new ≡ old ++ y ∷ [] → old ++ settings_meant item s (map setting (drop i xs)) ≡ all → new ++ settings_meant item s (map setting (drop (i + 1) xs)) ≡ all
  made_next old new all e so_far =
      let p = value_of (fault_in (new_value item s (setting x))) (meant_if (place_or (place_of item.columns x.column)) (new_value item s (setting x))) (y ∷ []) h in
      let rest = settings_meant item s (map setting (drop (i + 1) xs)) in
      ap (λ ys. ys ++ rest) e ∙ (append_assoc old (y ∷ []) rest ∙ (ap (λ ys. old ++ ys) (sym (ap (settings_meant item s) (later_step setting xs i x within is) ∙ ap (λ ys. ys ++ rest) p.1)) ∙ so_far))
