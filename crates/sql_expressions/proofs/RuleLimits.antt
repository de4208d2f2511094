-- Expressions of each depth are those without limits that keep the limits.
use Rattle.std.proofs.Common.{◌≡◌, ℕ, zero, suc, true, refl, sym, subst, arith, List}
use Rattle.std.specs.Prelude.{All}
use Rattle.sql_tokens.specs.declared.token.Token.{Token}
use Rattle.sql_expressions.specs.Grammar.{any, below, freed, unary_at, product_at, sum_at, test_at, comparison_at, nullity_at, negation_at, conjunction_at, expression_at, levels, under_depth, rules, deep_expression, expression}
use Rattle.sql_expressions.specs.Levels.{Deep, Rules, is_product, is_sum}
use Rattle.sql_expressions.specs.Limits.{IsShort, IsWithin, StandIn}
use Rattle.sql_ast.specs.Expressions.{Tree}
use Rattle.sql_expressions.specs.declared.levels.TheConstants.{MOST_DEPTH}
use Rattle.sql_expressions.proofs.DepthLaws.{unary_from, negation_from}
use Rattle.sql_expressions.proofs.Limited.{Of, over, adapt, each_of_all, all_of_each}
use Rattle.sql_expressions.proofs.LevelLimits.{Lim, Low, High, is_below, RulesLimited, operators_limited, conjunction_limited, disjunction_limited, nullity_limited, unary_limited, test_limited, comparison_limited, negation_limited}
use Rattle.sql_expressions.proofs.RuleLaws.{rules_laws}
use Rattle.sql_expressions.proofs.TextWords.{may_be_long}
use Rattle.sql_expressions.proofs.WordLaws.{apart}
use Rattle.sql_expressions.proofs.WordLimits.{ShortThere}

module _ (text : List ℕ) where
  -- the levels of a depth of at most n
  module _ (n : ℕ) (r : Rules) (l : (d : ℕ) → below n d ≡ true → RulesLimited text n (Low text n) r (any text)) where
    abbrev Keeps : Of Deep → Of Deep → Type 0
    Keeps P U = Lim text n (Unit {0}) (High text n) P U

    unary_kept : Keeps (unary_at text n r).texts (any text).unary.texts
    unary_kept = over (unary_from text) (unary_limited text n (any text) r l)

    product_kept : Keeps (product_at text n r).texts (any text).product.texts
    product_kept = operators_limited text n (unary_at text n r) ((freed text r).unary) unary_kept (λ d e. (l d e).unary) is_product (apart is_product may_be_long (λ t. refl) refl)

    sum_kept : Keeps (sum_at text n r).texts (any text).sum.texts
    sum_kept = operators_limited text n (product_at text n r) ((freed text r).product) product_kept (λ d e. (l d e).product) is_sum (apart is_sum may_be_long (λ t. refl) refl)

    test_kept : Keeps (test_at text n r).texts (any text).test.texts
    test_kept = test_limited text n (any text) r l (sum_at text n r) sum_kept

    comparison_kept : Keeps (comparison_at text n r).texts (comparison_at text n r).free
    comparison_kept = comparison_limited text n (any text) r l (test_at text n r) test_kept

    nullity_kept : Keeps (nullity_at text n r).texts (nullity_at text n r).free
    nullity_kept = nullity_limited text n (comparison_at text n r) comparison_kept

    negation_kept : Keeps (negation_at text n r).texts (any text).negation.texts
    negation_kept = over (negation_from text) (negation_limited text n (any text) r l (nullity_at text n r) nullity_kept)

    conjunction_kept : Keeps (conjunction_at text n r).texts (any text).conjunction.texts
    conjunction_kept = conjunction_limited text n (negation_at text n r) ((freed text r).negation) negation_kept (λ d e. (l d e).negation)

    expression_kept : Keeps (expression_at text n r).texts (any text).expression.texts
    expression_kept = disjunction_limited text n (conjunction_at text n r) ((freed text r).conjunction) conjunction_kept (λ d e. (l d e).conjunction)

    levels_limited : RulesLimited text n (High text n) (levels text n r) (any text)
    levels_limited = record {
      unary = unary_kept;
      product = product_kept;
      sum = sum_kept;
      test = test_kept;
      negation = negation_kept;
      conjunction = conjunction_kept;
      expression = expression_kept;
    }

  lower : (m : ℕ) {P U : Of Deep} → Lim text m (Unit {0}) (High text m) P U → Lim text (suc m) (Unit {0}) (Low text (suc m)) P U
  lower m l = adapt l (λ x g. omega arith) (λ x g. omega arith)

  one_lower : (m : ℕ) (r : Rules) → RulesLimited text m (High text m) r (any text) → RulesLimited text (suc m) (Low text (suc m)) r (any text)
  one_lower m r l = record {
    unary = lower m l.unary;
    product = lower m l.product;
    sum = lower m l.sum;
    test = lower m l.test;
    negation = lower m l.negation;
    conjunction = lower m l.conjunction;
    expression = lower m l.expression;
  }

  none_below : (d : ℕ) → below 0 d ≡ true → ⊥
  none_below d h = let i = is_below 0 d h in omega arith

  -- every depth
  under_limited : (n : ℕ) → (d : ℕ) → below n d ≡ true → RulesLimited text n (Low text n) (under_depth text n) (any text)
  unfolding under_depth
  under_limited zero d e = absurd (none_below d e)
  under_limited (suc m) d e = one_lower m (levels text m (under_depth text m)) (levels_limited m (under_depth text m) (under_limited m))

  deep_limited : (n : ℕ) → Lim text n (Unit {0}) (High text n) (rules text n).expression.texts (rules text n).expression.free
  deep_limited n = expression_kept n (under_depth text n) (under_limited n)

  short_there : (tokens : List Token) → StandIn text tokens → All (ShortThere text) tokens → All (IsShort text) tokens
  short_there tokens there short k d h = short k d h (there k d h)

  pub within : (tokens : List Token) (tree : Tree) → StandIn text tokens → (expression text).texts tokens tree → IsWithin text tokens tree
  within tokens tree there w =
      let p = (deep_limited MOST_DEPTH).bounded tt tokens w.0 w.1 in
      let free = (rules_laws text MOST_DEPTH).expression.shape.within tokens w.0 w.1 in
      (w.0.1, subst (λ t. (deep_expression text).free tokens (t, w.0.1)) (sym w.2) free, p.0, short_there tokens there (all_of_each (ShortThere text) tokens p.1))

  pub all : (tokens : List Token) (tree : Tree) → IsWithin text tokens tree → (expression text).texts tokens tree
  all tokens tree w =
      let p = (deep_limited MOST_DEPTH).covered tokens (tree, w.0) w.1 w.2 (each_of_all (IsShort text) tokens w.3) in
      ((tree, w.0), p.1, refl)
