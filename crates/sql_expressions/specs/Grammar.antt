-- Expressions of any depth, and those of a depth of at most n (4.2 Value Expressions).
use Rattle.std.specs.Prelude.{ℕ, zero, suc, true, false, nat_lt, List, Err, ◌⊎◌}
use Rattle.grammar.specs.Depths.{AtSome}
use Rattle.grammar.specs.Reading.{Rule, syntax_at, as_value}
use Rattle.sql_tokens.specs.declared.token.Token.{Token}
use Rattle.sql_ast.specs.Expressions.{Tree}
use Rattle.sql_expressions.specs.Levels.{Deep, Room, Rules, unary, chain, is_product, is_sum, test, comparison, nullity, negation, conjunction, disjunction}
use Rattle.sql_expressions.specs.declared.levels.TheConstants.{MOST_DEPTH}

-- a rule of known texts; it is not read
abbrev pub known : (List Token → Deep → Type 0) → Rule Token Deep
known P = record { texts = P; free = P; read = λ ts. Err (syntax_at 0) }

-- The two levels that stand in one another.
pub record Texts : Type 1 where
  pub unary : List Token → Deep → Type 0
  pub negation : List Token → Deep → Type 0

-- room for everything
abbrev pub endless : Room
endless d = true

-- all levels over the texts of the two
abbrev pub product_over : Texts → Rule Token Deep
product_over k = chain is_product endless (known k.unary) (known k.unary)

abbrev pub sum_over : Texts → Rule Token Deep
sum_over k = chain is_sum endless (product_over k) (product_over k)

abbrev pub conjunction_over : Texts → Rule Token Deep
conjunction_over k = conjunction endless (known k.negation) (known k.negation)

abbrev pub expression_over : Texts → Rule Token Deep
expression_over k = disjunction endless (conjunction_over k) (conjunction_over k)

abbrev pub parts_over : Texts → Rule Token Deep → Rules
parts_over k test = record {
  unary = known k.unary;
  product = product_over k;
  sum = sum_over k;
  test = test;
  negation = known k.negation;
  conjunction = conjunction_over k;
  expression = expression_over k;
}

abbrev pub test_over : Texts → Rule Token Deep
test_over k = let r = parts_over k (known k.unary) in test endless r r (sum_over k)

abbrev pub over : Texts → Rules
over k = parts_over k (test_over k)

abbrev pub nullity_over : Texts → Rule Token Deep
nullity_over k = nullity endless (comparison endless (over k) (over k) (test_over k))

-- what stands in one another at most one time more
abbrev pub grown : List ℕ → Texts → Texts
grown text k = record {
  unary = λ ts x. k.unary ts x ⊎ (unary text endless (over k) (over k)).free ts x;
  negation = λ ts x. k.negation ts x ⊎ (negation endless (over k) (over k) (nullity_over k)).free ts x;
}

unfoldable pub nesting : List ℕ → ℕ → Texts
nesting text zero = record { unary = λ ts x. ⊥; negation = λ ts x. ⊥ }
nesting text (suc n) = grown text (nesting text n)

-- expressions without limits
abbrev pub any : List ℕ → Rules
any text = over (record { unary = AtSome (λ n. (nesting text n).unary); negation = AtSome (λ n. (nesting text n).negation) })

-- Expressions of a depth of at most n. Without limits they are those of any depth.
abbrev pub freely : Rule Token Deep → Rule Token Deep → Rule Token Deep
freely any p = record { texts = p.texts; free = any.texts; read = p.read }

abbrev pub freed : List ℕ → Rules → Rules
freed text r = record {
  unary = freely (any text).unary r.unary;
  product = freely (any text).product r.product;
  sum = freely (any text).sum r.sum;
  test = freely (any text).test r.test;
  negation = freely (any text).negation r.negation;
  conjunction = freely (any text).conjunction r.conjunction;
  expression = freely (any text).expression r.expression;
}

abbrev pub below : ℕ → Room
below n d = nat_lt d n

-- the levels of a depth of at most n, where the rules r are those of the depth below
abbrev pub unary_at : List ℕ → ℕ → Rules → Rule Token Deep
unary_at text n r = freely (any text).unary (unary text (below n) (any text) (freed text r))

abbrev pub product_at : List ℕ → ℕ → Rules → Rule Token Deep
product_at text n r = chain is_product (below n) (unary_at text n r) (freed text r).unary

abbrev pub sum_at : List ℕ → ℕ → Rules → Rule Token Deep
sum_at text n r = chain is_sum (below n) (product_at text n r) (freed text r).product

abbrev pub test_at : List ℕ → ℕ → Rules → Rule Token Deep
test_at text n r = test (below n) (any text) (freed text r) (sum_at text n r)

abbrev pub comparison_at : List ℕ → ℕ → Rules → Rule Token Deep
comparison_at text n r = comparison (below n) (any text) (freed text r) (test_at text n r)

abbrev pub nullity_at : List ℕ → ℕ → Rules → Rule Token Deep
nullity_at text n r = nullity (below n) (comparison_at text n r)

abbrev pub negation_at : List ℕ → ℕ → Rules → Rule Token Deep
negation_at text n r = freely (any text).negation (negation (below n) (any text) (freed text r) (nullity_at text n r))

abbrev pub conjunction_at : List ℕ → ℕ → Rules → Rule Token Deep
conjunction_at text n r = conjunction (below n) (negation_at text n r) (freed text r).negation

abbrev pub expression_at : List ℕ → ℕ → Rules → Rule Token Deep
expression_at text n r = disjunction (below n) (conjunction_at text n r) (freed text r).conjunction

abbrev pub levels : List ℕ → ℕ → Rules → Rules
levels text n r = record {
  unary = unary_at text n r;
  product = product_at text n r;
  sum = sum_at text n r;
  test = test_at text n r;
  negation = negation_at text n r;
  conjunction = conjunction_at text n r;
  expression = expression_at text n r;
}

-- Where nothing may stand under an operator, a call or parentheses: a level's operands are of that depth too.
abbrev pub no_room : Room
no_room d = false

abbrev pub zero_unary : List ℕ → Rule Token Deep
zero_unary text = freely (any text).unary (unary text no_room (any text) (any text))

abbrev pub zero_product : List ℕ → Rule Token Deep
zero_product text = chain is_product no_room (zero_unary text) (zero_unary text)

abbrev pub zero_sum : List ℕ → Rule Token Deep
zero_sum text = chain is_sum no_room (zero_product text) (zero_product text)

abbrev pub zero_test : List ℕ → Rule Token Deep
zero_test text = test no_room (any text) (any text) (zero_sum text)

abbrev pub zero_nullity : List ℕ → Rule Token Deep
zero_nullity text = nullity no_room (comparison no_room (any text) (any text) (zero_test text))

abbrev pub zero_negation : List ℕ → Rule Token Deep
zero_negation text = freely (any text).negation (negation no_room (any text) (any text) (zero_nullity text))

abbrev pub zero_conjunction : List ℕ → Rule Token Deep
zero_conjunction text = conjunction no_room (zero_negation text) (zero_negation text)

abbrev pub zero_expression : List ℕ → Rule Token Deep
zero_expression text = disjunction no_room (zero_conjunction text) (zero_conjunction text)

abbrev pub flat_rules : List ℕ → Rules
flat_rules text = record {
  unary = zero_unary text;
  product = zero_product text;
  sum = zero_sum text;
  test = zero_test text;
  negation = zero_negation text;
  conjunction = zero_conjunction text;
  expression = zero_expression text;
}

-- the rules of the depth below n
unfoldable pub under_depth : List ℕ → ℕ → Rules
under_depth text zero = flat_rules text
under_depth text (suc n) = levels text n (under_depth text n)

-- expressions of a depth of at most n
abbrev pub rules : List ℕ → ℕ → Rules
rules text n = levels text n (under_depth text n)

-- an expression within the limits, with its depth
abbrev pub deep_expression : List ℕ → Rule Token Deep
deep_expression text = (rules text MOST_DEPTH).expression

-- expr
abbrev pub tree_of : Deep → Tree
tree_of x = x.0

abbrev pub expression : List ℕ → Rule Token Tree
expression text = as_value tree_of (deep_expression text)
