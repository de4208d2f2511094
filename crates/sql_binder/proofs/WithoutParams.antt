-- Without parameters nothing is put into a statement.
use Rattle.std.proofs.Common.{◌≡◌, ◌==◌, ◌∙◌, arith, Bool, true, List, [], ◌∷◌, Option, Some, None, length, map, refl, sym, ap}
use Rattle.std.proofs.lemmas.Bool.Decides.{nat_tests}
use Rattle.cond_logic.specs.Asked.{ChangeMeant, SelectMeant}
use Rattle.cond_logic.specs.Rewriting.{with_args}
use Rattle.cond_logic.specs.Trees.{CondTree}
use Rattle.cond_logic.proofs.Bound.{without_args}
use Rattle.expression_binder.specs.declared.scope.Param.{Param}
use Rattle.sql_binder.specs.Values.{values_of, with_values, condition_with, change_with_values}

each_same : (ts : List CondTree) → map (with_args []) ts ≡ ts
each_same [] = refl
each_same (t ∷ ts) = rw (without_args t, each_same ts) refl

maybe_same : (o : Option CondTree) → condition_with [] o ≡ o
maybe_same None = refl
maybe_same (Some t) = ap Some (without_args t)

some_there : (p : Param) (ps : List Param) → (length (p ∷ ps) == 0) ≡ true → ⊥
some_there p ps empty = let none : length (p ∷ ps) ≡ 0 = grind (arith, nat_tests, empty) in omega (arith, none)

pub none_put : (b : Bool) (params : List Param) (m : SelectMeant) → b ≡ (length params == 0) → b ≡ true → m ≡ with_values (values_of params) m
none_put b [] m is empty = sym (ap (λ (cs : List CondTree). record m { conditions = cs }) (each_same m.conditions))
none_put b (p ∷ ps) m is empty = absurd (some_there p ps (sym is ∙ empty))

pub none_put_in : (b : Bool) (params : List Param) (m : ChangeMeant) → b ≡ (length params == 0) → b ≡ true → m ≡ change_with_values (values_of params) m
none_put_in b [] m is empty = sym (ap (λ (c : Option CondTree). record m { condition = c }) (maybe_same m.condition))
none_put_in b (p ∷ ps) m is empty = absurd (some_there p ps (sym is ∙ empty))
