-- Steps of loops, and what stands behind what.
use Rattle.std.proofs.Common.{ℕ, ◌≡◌, List, [], ◌∷◌, ◌++◌, refl, sym, ap, ◌∙◌, append_assoc}
use Rattle.sql_ast.specs.Expressions.{Tree}
use Rattle.expression_binder.specs.Conditions.{cond_faults}
use Rattle.expression_binder.specs.Meanings.{constant_faults, meaning}
use Rattle.expression_binder.specs.declared.scope.Param.{Param}
use Rattle.expression_binder.specs.Scopes.{Item, condition_scope}
use Rattle.sql_binder.specs.From.{condition_faults, condition_constants, condition_meanings}

-- ---- conditions

module _ (params : List Param) (session : ℕ) where
  pub faults_behind : (cs ds : List (List Item × Tree)) → condition_faults params session (cs ++ ds) ≡ condition_faults params session cs ++ condition_faults params session ds
  faults_behind [] ds = refl
  faults_behind (c ∷ cs) ds =
      let f = cond_faults (condition_scope c.0 params session) c.1 in
      ap (λ fs. f ++ fs) (faults_behind cs ds) ∙ sym (append_assoc f (condition_faults params session cs) (condition_faults params session ds))

  pub constants_behind : (cs ds : List (List Item × Tree)) → condition_constants params session (cs ++ ds) ≡ condition_constants params session cs ++ condition_constants params session ds
  constants_behind [] ds = refl
  constants_behind (c ∷ cs) ds =
      let f = constant_faults (condition_scope c.0 params session) c.1 in
      ap (λ fs. f ++ fs) (constants_behind cs ds) ∙ sym (append_assoc f (condition_constants params session cs) (condition_constants params session ds))

  pub meanings_behind : (cs ds : List (List Item × Tree)) → condition_meanings params session (cs ++ ds) ≡ condition_meanings params session cs ++ condition_meanings params session ds
  meanings_behind [] ds = refl
  meanings_behind (c ∷ cs) ds = ap (λ ms. meaning (condition_scope c.0 params session) c.1 ∷ ms) (meanings_behind cs ds)
