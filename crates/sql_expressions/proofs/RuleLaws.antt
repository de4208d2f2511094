-- Expressions of each depth keep the law, and so does the rule of expressions.
use Rattle.std.proofs.Common.{◌≡◌, ℕ, zero, suc, true, false, List, [], ◌∷◌, inr, refl, sym}
use Rattle.std.proofs.lemmas.List.{append-nil}
use Rattle.grammar.proofs.Laws.{Law}
use Rattle.grammar.proofs.Build.{said, valued}
use Rattle.sql_tokens.specs.declared.kind.TokenKind.TheVariants as word
use Rattle.sql_tokens.specs.declared.token.Token.{Token}
use Rattle.sql_ast.specs.declared.leaf.Leaf.TheVariants as leaf
use Rattle.sql_expressions.specs.declared.levels.TheConstants.{MOST_DEPTH}
use Rattle.sql_expressions.specs.Levels.{Deep, Parts, Room, Rules, begins_expression, flat, only_part, unary}
use Rattle.sql_expressions.specs.Grammar.{any, freely, freed, below, no_room, unary_at, product_at, sum_at, test_at, comparison_at, nullity_at, negation_at, conjunction_at, levels, zero_unary, zero_product, zero_sum, zero_test, zero_nullity, zero_negation, zero_conjunction, flat_rules, under_depth, rules, tree_of, expression}
use Rattle.sql_expressions.proofs.WordLaws.{sample}
use Rattle.sql_expressions.proofs.DepthLaws.{unary_to, unary_from, negation_to, negation_from}
use Rattle.sql_expressions.proofs.LevelLaws.{begins_unary, after_unary, after_product, after_sum, after_test, after_comparison, after_negation, after_conjunction, after_expression, Laws, Sample, unary_law, product_law, sum_law, test_law, comparison_law, nullity_law, negation_law, conjunction_law, disjunction_law}

-- NULL is an expression
module _ (text : List ℕ) where
  abbrev null_text : List Token
  null_text = sample word.Null ∷ []

  abbrev null_value : Deep
  null_value = flat leaf.Null

  abbrev null_parts : Parts
  null_parts = only_part null_value

  null_unary : (any text).unary.texts null_text null_value
  null_unary = unary_to text null_text null_value (inr (inr (leaf.Null, (sample word.Null, inr (refl, refl), refl), refl)))

  null_product : (any text).product.texts null_text null_value
  null_product = ((null_value, null_value), (null_text, [], sym (append-nil null_text), null_unary, ([], (refl, refl))), refl)

  null_sum : (any text).sum.texts null_text null_value
  null_sum = ((null_value, null_value), (null_text, [], sym (append-nil null_text), null_product, ([], (refl, refl))), refl)

  null_test : (any text).test.texts null_text null_value
  null_test = ((null_value, null_value), (null_text, [], sym (append-nil null_text), null_sum, inr (refl, refl)), refl)

  null_negation : (any text).negation.texts null_text null_value
  null_negation =
      negation_to text null_text null_value
      (inr ((null_value, null_value), (null_text, [], sym (append-nil null_text), ((null_value, null_value), (null_text, [], sym (append-nil null_text), null_test, inr (refl, refl)), refl), ([], (refl, refl))), refl))

  null_conjunction : (any text).conjunction.texts null_text null_value
  null_conjunction = (null_parts, ((null_value, null_parts), (null_text, [], sym (append-nil null_text), null_negation, ([], (refl, refl))), refl), refl)

  null_expression : (any text).expression.texts null_text null_value
  null_expression = (null_parts, ((null_value, null_parts), (null_text, [], sym (append-nil null_text), null_conjunction, ([], (refl, refl))), refl), refl)

  pub any_sample : Sample (any text)
  any_sample = record { text = null_text; value = null_value; unary = null_unary; sum = null_sum; test = null_test; negation = null_negation; expression = null_expression }

  -- The two levels that stand in one another, in any room, over rules that keep the law where there is room.
  module _ (room : Room) (r : Rules) (laws : (d : ℕ) → room d ≡ true → Laws (freed text r)) where
    unary_freed : Law (freely (any text).unary (unary text room (any text) (freed text r))) begins_unary false after_unary
    unary_freed =
        said (unary text room (any text) (freed text r)).texts (any text).unary.texts (λ ts x w. w) (λ ts x w. w) (unary_to text) (unary_from text)
        (unary_law text room (any text) any_sample r laws)

  -- the levels of a depth of at most n
  module _ (n : ℕ) (r : Rules) (l : Laws (freed text r)) where
    unary_at_law : Law (unary_at text n r) begins_unary false after_unary
    unary_at_law = unary_freed (below n) r (λ d h. l)

    product_at_law : Law (product_at text n r) begins_unary false after_product
    product_at_law = product_law (below n) unary_at_law l.unary

    sum_at_law : Law (sum_at text n r) begins_unary false after_sum
    sum_at_law = sum_law (below n) product_at_law l.product

    test_at_law : Law (test_at text n r) begins_unary false after_test
    test_at_law = test_law text (below n) (any text) any_sample r (λ d h. l) sum_at_law

    comparison_at_law : Law (comparison_at text n r) begins_unary false after_comparison
    comparison_at_law = comparison_law text (below n) (any text) any_sample r (λ d h. l) test_at_law

    nullity_at_law : Law (nullity_at text n r) begins_unary false after_negation
    nullity_at_law = nullity_law (below n) comparison_at_law

    negation_at_law : Law (negation_at text n r) begins_expression false after_negation
    negation_at_law =
        said (negation_at text n r).texts (any text).negation.texts (λ ts x w. w) (λ ts x w. w) (negation_to text) (negation_from text)
        (negation_law text (below n) (any text) any_sample r (λ d h. l) nullity_at_law)

    conjunction_at_law : Law (conjunction_at text n r) begins_expression false after_conjunction
    conjunction_at_law = conjunction_law (below n) negation_at_law l.negation

    expression_at_law : Law (levels text n r).expression begins_expression false after_expression
    expression_at_law = disjunction_law (below n) conjunction_at_law l.conjunction

    levels_laws : Laws (freed text (levels text n r))
    levels_laws = record {
      unary = unary_at_law;
      product = product_at_law;
      sum = sum_at_law;
      test = test_at_law;
      negation = negation_at_law;
      conjunction = conjunction_at_law;
      expression = expression_at_law;
    }

  -- where nothing may stand under an operator, a call or parentheses
  full : (d : ℕ) → no_room d ≡ true → Laws (freed text (any text))
  full d h = cc

  zero_unary_law : Law (zero_unary text) begins_unary false after_unary
  zero_unary_law = unary_freed no_room (any text) full

  zero_product_law : Law (zero_product text) begins_unary false after_product
  zero_product_law = product_law no_room zero_unary_law zero_unary_law

  zero_sum_law : Law (zero_sum text) begins_unary false after_sum
  zero_sum_law = sum_law no_room zero_product_law zero_product_law

  zero_test_law : Law (zero_test text) begins_unary false after_test
  zero_test_law = test_law text no_room (any text) any_sample (any text) full zero_sum_law

  zero_nullity_law : Law (zero_nullity text) begins_unary false after_negation
  zero_nullity_law = nullity_law no_room (comparison_law text no_room (any text) any_sample (any text) full zero_test_law)

  zero_negation_law : Law (zero_negation text) begins_expression false after_negation
  zero_negation_law =
      said (zero_negation text).texts (any text).negation.texts (λ ts x w. w) (λ ts x w. w) (negation_to text) (negation_from text)
      (negation_law text no_room (any text) any_sample (any text) full zero_nullity_law)

  zero_conjunction_law : Law (zero_conjunction text) begins_expression false after_conjunction
  zero_conjunction_law = conjunction_law no_room zero_negation_law zero_negation_law

  flat_laws : Laws (freed text (flat_rules text))
  flat_laws = record {
    unary = zero_unary_law;
    product = zero_product_law;
    sum = zero_sum_law;
    test = zero_test_law;
    negation = zero_negation_law;
    conjunction = zero_conjunction_law;
    expression = disjunction_law no_room zero_conjunction_law zero_conjunction_law;
  }

  -- every depth
  pub under_laws : (n : ℕ) → Laws (freed text (under_depth text n))
  unfolding under_depth
  under_laws zero = flat_laws
  under_laws (suc n) = levels_laws n (under_depth text n) (under_laws n)

  pub rules_laws : (n : ℕ) → Laws (freed text (rules text n))
  rules_laws n = levels_laws n (under_depth text n) (under_laws n)

  pub expression_law : Law (expression text) begins_expression false after_expression
  expression_law = valued tree_of (expression_at_law MOST_DEPTH (under_depth text MOST_DEPTH) (under_laws MOST_DEPTH))
