-- The conditions of ON that are made, and that of WHERE behind them.
use Rattle.std.proofs.Common.{ℕ, ◌≡◌, List, [], ◌∷◌, ◌++◌, Option, Some, map, refl, sym, ap, ◌∙◌, Ok}
use Rattle.std.proofs.lemmas.List.{map-append}
use Rattle.cond_logic.specs.declared.cond.Cond.{Cond}
use Rattle.cond_logic.specs.Trees.{cond_tree}
use Rattle.sql_ast.specs.Expressions.{Tree}
use Rattle.sql_ast.specs.Queries.{Joined}
use Rattle.expression_binder.specs.Firsts.{or_first}
use Rattle.expression_binder.specs.Meanings.{constant_faults, meaning}
use Rattle.expression_binder.specs.declared.scope.Param.{Param}
use Rattle.expression_binder.specs.Scopes.{Item, condition_scope}
use Rattle.expression_binder.proofs.Firsts.{value_of}
use Rattle.sql_binder.specs.From.{on_conditions, all_conditions, condition_constants, condition_meanings}
use Rattle.sql_binder.proofs.Joins.{constants_with, meanings_with}

module _ (params : List Param) (session : ℕ) (items : List Item) (from : List Joined) (t : Tree) (o : Option Tree) (first made : List Cond) (cond : Cond) where
  pub made_with : o ≡ Some t
      → or_first (condition_constants params session (on_conditions items 0 0 from)) (condition_meanings params session (on_conditions items 0 0 from)) ≡ Ok (map cond_tree first)
      → or_first (constant_faults (condition_scope items params session) t) (meaning (condition_scope items params session) t) ≡ Ok (cond_tree cond)
      → made ≡ first ++ cond ∷ []
      → or_first (condition_constants params session (all_conditions items from o)) (condition_meanings params session (all_conditions items from o)) ≡ Ok (map cond_tree made)
  made_with is h k e =
      let on = on_conditions items 0 0 from in
      let s = condition_scope items params session in
      let p = value_of (condition_constants params session on) (condition_meanings params session on) (map cond_tree first) h in
      let q = value_of (constant_faults s t) (meaning s t) (cond_tree cond) k in
      let none : condition_constants params session (all_conditions items from o) ≡ [] =
      ap (λ w. condition_constants params session (all_conditions items from w)) is
      ∙ (constants_with params session items from t ∙ (ap (λ fs. fs ++ constant_faults s t) p.0 ∙ q.0)) in
      let all : condition_meanings params session (all_conditions items from o) ≡ map cond_tree made =
      ap (λ w. condition_meanings params session (all_conditions items from w)) is
      ∙ (meanings_with params session items from t
      ∙ (ap (λ ms. ms ++ meaning s t ∷ []) p.1
      ∙ (ap (λ y. map cond_tree first ++ y ∷ []) q.1
      ∙ sym (ap (map cond_tree) e ∙ map-append cond_tree first (cond ∷ []))))) in
      rw (none, all) refl
