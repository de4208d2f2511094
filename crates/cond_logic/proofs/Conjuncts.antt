-- The conjuncts of a condition have together its truth.
use Rattle.std.proofs.Common.{◌≡◌, List, [], ◌∷◌, ◌++◌, refl, sym, ap, ◌∙◌}
use Rattle.pg_values.specs.declared.value.Value.{Value}
use Rattle.cond_logic.specs.declared.truth.Truth3.{Truth3}
use Rattle.cond_logic.specs.declared.truth.Truth3.TheVariants.{Yes, No, Unknown}
use Rattle.cond_logic.specs.Conjuncts.{conjuncts, all_conjuncts}
use Rattle.cond_logic.specs.Trees.{CondTree, CondTrees, no_more, and_more, all_of, any_of, inverted, compares, null_test, known, listed}
use Rattle.cond_logic.specs.Truths.{least, truth, least_of}
use Rattle.cond_logic.specs.Tuples.{Places}

least_yes : (a : Truth3) → least a Yes ≡ a
least_yes Yes = refl
least_yes No = refl
least_yes Unknown = refl

least_assoc : (a b c : Truth3) → least (least a b) c ≡ least a (least b c)
least_assoc No b c = refl
least_assoc Yes b c = refl
least_assoc Unknown No c = refl
least_assoc Unknown Yes c = refl
least_assoc Unknown Unknown No = refl
least_assoc Unknown Unknown Yes = refl
least_assoc Unknown Unknown Unknown = refl

module _ (rows : Places) (args : List Value) where
  least_append : (ts us : List CondTree) → least_of rows args (listed (ts ++ us)) ≡ least (least_of rows args (listed ts)) (least_of rows args (listed us))
  least_append [] us = refl
  least_append (t ∷ ts) us = ap (least (truth rows args t)) (least_append ts us) ∙ sym (least_assoc (truth rows args t) (least_of rows args (listed ts)) (least_of rows args (listed us)))

  mutual
    pub together : (t : CondTree) → least_of rows args (listed (conjuncts t)) ≡ truth rows args t
    together (all_of ts) = all_together ts
    together (any_of ts) = least_yes (truth rows args (any_of ts))
    together (inverted t) = least_yes (truth rows args (inverted t))
    together (compares op x y) = least_yes (truth rows args (compares op x y))
    together (null_test x) = least_yes (truth rows args (null_test x))
    together (known t) = least_yes t

    all_together : (ts : CondTrees) → least_of rows args (listed (all_conjuncts ts)) ≡ least_of rows args ts
    all_together no_more = refl
    all_together (and_more t ts) = least_append (conjuncts t) (all_conjuncts ts) ∙ rw (together t, all_together ts) refl
