-- The conditions of ON one by one, and that of WHERE behind them.
use Rattle.std.proofs.Common.{ℕ, ◌+◌, ◌<◌, ◌≡◌, List, [], ◌∷◌, ◌++◌, Option, Some, map, drop, length, get_or, ap, ◌∙◌, append-nil}
use Rattle.sql_ast.specs.Expressions.{Tree}
use Rattle.sql_ast.specs.declared.expr.Expr.{Expr}
use Rattle.sql_ast.specs.declared.select.FromItem.{FromItem}
use Rattle.sql_ast.specs.Queries.{Joined, joined_tree, maybe_tree}
use Rattle.expression_binder.specs.Conditions.{cond_faults}
use Rattle.expression_binder.specs.Meanings.{constant_faults, meaning}
use Rattle.expression_binder.specs.declared.scope.Param.{Param}
use Rattle.expression_binder.specs.Scopes.{Item, condition_scope}
use Rattle.sql_binder.specs.From.{on_condition, start_of, on_conditions, all_conditions, condition_faults, condition_constants, condition_meanings}
use Rattle.expression_binder.proofs.Lists.{later_step}
use Rattle.sql_binder.proofs.Steps.{faults_behind, constants_behind, meanings_behind}

pub on_step : (items : List Item) (start : ℕ) (xs : List FromItem) (i : ℕ) (x : FromItem) (o : Option Expr) → i < length xs → x ≡ get_or xs i x → x.on ≡ o
    → on_conditions items start i (map joined_tree (drop i xs)) ≡ on_condition items start i (maybe_tree o) ++ on_conditions items (start_of start i (maybe_tree o)) (i + 1) (map joined_tree (drop (i + 1) xs))
on_step items start xs i x o within is e =
    ap (on_conditions items start i) (later_step joined_tree xs i x within is)
    ∙ ap (λ p. on_condition items start i (maybe_tree p) ++ on_conditions items (start_of start i (maybe_tree p)) (i + 1) (map joined_tree (drop (i + 1) xs))) e

module _ (params : List Param) (session : ℕ) (items : List Item) (from : List Joined) (t : Tree) where
  pub faults_with : condition_faults params session (all_conditions items from (Some t)) ≡ condition_faults params session (on_conditions items 0 0 from) ++ cond_faults (condition_scope items params session) t
  faults_with = faults_behind params session (on_conditions items 0 0 from) ((items, t) ∷ []) ∙ ap (λ fs. condition_faults params session (on_conditions items 0 0 from) ++ fs) (append-nil _)

  pub constants_with : condition_constants params session (all_conditions items from (Some t)) ≡ condition_constants params session (on_conditions items 0 0 from) ++ constant_faults (condition_scope items params session) t
  constants_with = constants_behind params session (on_conditions items 0 0 from) ((items, t) ∷ []) ∙ ap (λ fs. condition_constants params session (on_conditions items 0 0 from) ++ fs) (append-nil _)

  pub meanings_with : condition_meanings params session (all_conditions items from (Some t)) ≡ condition_meanings params session (on_conditions items 0 0 from) ++ meaning (condition_scope items params session) t ∷ []
  meanings_with = meanings_behind params session (on_conditions items 0 0 from) ((items, t) ∷ [])
