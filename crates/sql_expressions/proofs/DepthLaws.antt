-- Expressions without limits are what their levels make of them: no depth is passed by one level more.
use Rattle.std.proofs.Common.{ℕ, zero, suc, Bool, true, false, List, [], inl, inr}
use Rattle.grammar.specs.Depths.{AtSome}
use Rattle.grammar.specs.Reading.{Class, one_texts, nothing_texts, both_texts, follow_texts, value_texts, either_texts, one, as_value}
use Rattle.grammar.specs.Repeats.{repeats_texts, always, second_of}
use Rattle.grammar.proofs.Depths.{Inside, Grows, Union, grows_by, fixed, follow_union, both_union, value_union, either_union, repeats_union}
use Rattle.grammar.proofs.Depths as depths
use Rattle.sql_tokens.specs.declared.kind.TokenKind.{TokenKind}
use Rattle.sql_tokens.specs.declared.kind.TokenKind.TheVariants as word
use Rattle.sql_tokens.specs.declared.token.Token.{Token}
use Rattle.sql_tokens.specs.Classes.{a}
use Rattle.sql_expressions.specs.Words.{name, literal, column}
use Rattle.sql_expressions.specs.Levels as Levels
use Rattle.sql_expressions.specs.Levels.{Deep, Parts, Rules}
use Rattle.sql_expressions.specs.Grammar.{endless, Texts, product_over, sum_over, conjunction_over, expression_over, test_over, over, nullity_over, nesting, any}

abbrev Family : Type 0 → Type 1
Family A = ℕ → List Token → A → Type 0

abbrev Of : Type 0 → Type 1
Of A = List Token → A → Type 0

-- words before and behind
behind_union : {A : Type 0} {G : Family A} {P : Of A} (k : TokenKind) → Union G P → Union (λ n. value_texts (λ (x : Token × A). x.1) (both_texts (one_texts (a k)) (G n))) (value_texts (λ (x : Token × A). x.1) (both_texts (one_texts (a k)) P))
behind_union {A} {G = G} {P = P} k u = value_union (λ (x : Token × A). x.1) (both_union (fixed (one_texts (a k))) u)

before_union : {A : Type 0} {G : Family A} {P : Of A} (k : TokenKind) → Union G P → Union (λ n. value_texts (λ (x : A × Token). x.0) (both_texts (G n) (one_texts (a k)))) (value_texts (λ (x : A × Token). x.0) (both_texts P (one_texts (a k))))
before_union {A} {G = G} {P = P} k u = value_union (λ (x : A × Token). x.0) (both_union u (fixed (one_texts (a k))))

-- chains
abbrev chain_texts : {A B C : Type 0} → Class Token → (A → Bool) → (C → A) → (A → Token → B → A) → Of C → Of B → Of A
chain_texts {A} sign guard first join Q P = value_texts second_of (follow_texts Q (λ c. repeats_texts guard join (λ (l : A). both_texts (one_texts sign) P) (first c)))

chain_union : {A B C : Type 0} {H : Family C} {Q : Of C} {G : Family B} {P : Of B} (sign : Class Token) (guard : A → Bool) (first : C → A) (join : A → Token → B → A) → Union H Q → Union G P →
    Union (λ n. chain_texts sign guard first join (H n) (G n)) (chain_texts sign guard first join Q P)
chain_union {A} {H = H} {Q = Q} {G = G} {P = P} sign guard first join v u =
    value_union second_of (follow_union {G = H} {P = Q}
    {H = λ n c. repeats_texts guard join (λ (l : A). both_texts (one_texts sign) (G n)) (first c)} {Q = λ c. repeats_texts guard join (λ (l : A). both_texts (one_texts sign) P) (first c)} v
    (λ c. repeats_union guard join (λ n (l : A). both_texts (one_texts sign) (G n)) (λ (l : A). both_texts (one_texts sign) P) (λ l. both_union (fixed (one_texts sign)) u) (first c)))

-- the levels over a family of texts and its union
module _ (K : ℕ → Texts) (k : Texts) (unaries : Union (λ n. (K n).unary) k.unary) (negations : Union (λ n. (K n).negation) k.negation) where
  products : Union (λ n. (product_over (K n)).texts) (product_over k).texts
  products = chain_union Levels.is_product (Levels.has_room endless) Levels.itself Levels.join unaries unaries

  sums : Union (λ n. (sum_over (K n)).texts) (sum_over k).texts
  sums = chain_union Levels.is_sum (Levels.has_room endless) Levels.itself Levels.join products products

  conjunctions : Union (λ n. (conjunction_over (K n)).texts) (conjunction_over k).texts
  conjunctions = value_union Levels.all_value (chain_union (a word.And) (Levels.parts_room endless) Levels.only_part Levels.add_part negations negations)

  expressions : Union (λ n. (expression_over (K n)).texts) (expression_over k).texts
  expressions = value_union Levels.any_value (chain_union (a word.Or) (Levels.parts_room endless) Levels.only_part Levels.add_part conjunctions conjunctions)

  lists : Union (λ n. (Levels.list_of (expression_over (K n))).texts) (Levels.list_of (expression_over k)).texts
  lists = chain_union (a word.Comma) always Levels.only_part Levels.add_part expressions expressions

  calls : (f : List ℕ) → Union (λ n. (Levels.call_of (expression_over (K n)) f).texts) (Levels.call_of (expression_over k) f).texts
  calls f =
      behind_union word.OpenParenthesis (before_union word.CloseParenthesis
      (either_union (fixed (as_value (Levels.all_call f) (one (a word.Star))).texts)
      (value_union (Levels.call_value f) (either_union lists (fixed (nothing_texts ([], 0)))))))

  nested : Union (λ n. (Levels.nested (over (K n))).texts) (Levels.nested (over k)).texts
  nested =
      either_union (value_union (Levels.under _) (behind_union word.Minus unaries))
      (value_union Levels.deeper (behind_union word.OpenParenthesis (before_union word.CloseParenthesis expressions)))

  in_or_between : (b : Bool) (x : Deep) → Union (λ n. (Levels.in_or_between (over (K n)) b x).texts) (Levels.in_or_between (over k) b x).texts
  in_or_between b x =
      either_union (value_union (Levels.in_value b x) (behind_union word.In (behind_union word.OpenParenthesis (before_union word.CloseParenthesis lists))))
      (value_union (Levels.between_value b x) (behind_union word.Between (both_union sums (behind_union word.And sums))))

  tested : (x : Deep) → Union (λ n. (Levels.tested (over (K n)) x).texts) (Levels.tested (over k) x).texts
  tested x = either_union (behind_union word.Not (in_or_between true x)) (in_or_between false x)

  tests : Union (λ n. (test_over (K n)).texts) (test_over k).texts
  tests =
      value_union second_of (follow_union {H = λ n x. either_texts (Levels.tested (over (K n)) x).texts (nothing_texts x)} {Q = λ x. either_texts (Levels.tested (over k) x).texts (nothing_texts x)} sums
      (λ x. either_union (tested x) (fixed (nothing_texts x))))

  compared : (x : Deep) → Union (λ n. (Levels.compared (over (K n)) x).texts) (Levels.compared (over k) x).texts
  compared x = value_union (Levels.compared_value x) (both_union (fixed (one_texts Levels.is_comparison)) tests)

  abbrev comparison_texts : Texts → Of Deep
  comparison_texts j = value_texts second_of (follow_texts (test_over j).texts (λ x. either_texts (Levels.compared (over j) x).texts (nothing_texts x)))

  comparisons : Union (λ n. comparison_texts (K n)) (comparison_texts k)
  comparisons =
      value_union second_of (follow_union {H = λ n x. either_texts (Levels.compared (over (K n)) x).texts (nothing_texts x)} {Q = λ x. either_texts (Levels.compared (over k) x).texts (nothing_texts x)} tests
      (λ x. either_union (compared x) (fixed (nothing_texts x))))

  nullities : Union (λ n. (nullity_over (K n)).free) (nullity_over k).free
  nullities = chain_union (a word.Is) always Levels.itself Levels.null_join comparisons (fixed Levels.null_or_not.free)

  pub next_unary : (text : List ℕ) → Union (λ n. (Levels.unary text endless (over (K n)) (over (K n))).free) (Levels.unary text endless (over k) (over k)).free
  next_unary text =
      either_union nested (either_union
      (value_union second_of (follow_union {H = λ n x. either_texts (Levels.call_of (expression_over (K n)) x.1).texts (as_value Levels.flat (column text x)).free}
      {Q = λ x. either_texts (Levels.call_of (expression_over k) x.1).texts (as_value Levels.flat (column text x)).free} (fixed (name text).free)
      (λ x. either_union (calls x.1) (fixed (as_value Levels.flat (column text x)).free))))
      (fixed (as_value Levels.flat (literal text)).free))

  pub next_negation : Union (λ n. (Levels.negation endless (over (K n)) (over (K n)) (nullity_over (K n))).free) (Levels.negation endless (over k) (over k) (nullity_over k)).free
  next_negation = either_union (value_union (Levels.under _) (behind_union word.Not negations)) nullities

-- without limits
module _ (text : List ℕ) where
  abbrev endlessly : Texts
  endlessly = record { unary = AtSome (λ n. (nesting text n).unary); negation = AtSome (λ n. (nesting text n).negation) }

  unary_step : (n : ℕ) → Inside (nesting text n).unary (nesting text (suc n)).unary
  unfolding nesting
  unary_step n ts x w = inl w

  negation_step : (n : ℕ) → Inside (nesting text n).negation (nesting text (suc n)).negation
  unfolding nesting
  negation_step n ts x w = inl w

  unaries_at : Union (λ n. (nesting text n).unary) endlessly.unary
  unaries_at = depths.below (grows_by (λ n. (nesting text n).unary) unary_step)

  negations_at : Union (λ n. (nesting text n).negation) endlessly.negation
  negations_at = depths.below (grows_by (λ n. (nesting text n).negation) negation_step)

  abbrev any_unary : Of Deep
  any_unary = (Levels.unary text endless (any text) (any text)).free

  abbrev any_negation : Of Deep
  any_negation = (Levels.negation endless (any text) (any text) (nullity_over endlessly)).free

  unary_up : (n : ℕ) → Inside (Levels.unary text endless (over (nesting text n)) (over (nesting text n))).free (nesting text (suc n)).unary
  unfolding nesting
  unary_up n ts x w = inr w

  negation_up : (n : ℕ) → Inside (Levels.negation endless (over (nesting text n)) (over (nesting text n)) (nullity_over (nesting text n))).free (nesting text (suc n)).negation
  unfolding nesting
  negation_up n ts x w = inr w

  pub unary_to : Inside any_unary (any text).unary.texts
  unary_to ts x w = let p = (next_unary (λ n. nesting text n) endlessly unaries_at negations_at text).to ts x w in (suc p.0, unary_up p.0 ts x p.1)

  pub negation_to : Inside any_negation (any text).negation.texts
  negation_to ts x w = let p = (next_negation (λ n. nesting text n) endlessly unaries_at negations_at).to ts x w in (suc p.0, negation_up p.0 ts x p.1)

  unary_at : (n : ℕ) → Inside (nesting text n).unary any_unary
  unfolding nesting
  unary_at zero ts x w = absurd w
  unary_at (suc n) ts x (inl w) = unary_at n ts x w
  unary_at (suc n) ts x (inr w) = (next_unary (λ n. nesting text n) endlessly unaries_at negations_at text).from ts x (n, w)

  negation_at : (n : ℕ) → Inside (nesting text n).negation any_negation
  unfolding nesting
  negation_at zero ts x w = absurd w
  negation_at (suc n) ts x (inl w) = negation_at n ts x w
  negation_at (suc n) ts x (inr w) = (next_negation (λ n. nesting text n) endlessly unaries_at negations_at).from ts x (n, w)

  pub unary_from : Inside (any text).unary.texts any_unary
  unary_from ts x w = unary_at w.0 ts x w.1

  pub negation_from : Inside (any text).negation.texts any_negation
  negation_from ts x w = negation_at w.0 ts x w.1
