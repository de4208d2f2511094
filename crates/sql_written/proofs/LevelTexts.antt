-- The texts of each level without limits: what a looser level has of a tighter one, and what operators add.
use Rattle.std.proofs.Common.{◌≡◌, ℕ, zero, suc, ◌-◌, Bool, true, false, max, List, [], ◌∷◌, ◌++◌, inl, inr, refl, sym, ap, ◌∙◌, subst, append_assoc, append-nil}
use Rattle.std.specs.Prelude.{codes}
use Rattle.grammar.specs.Depths.{AtSome}
use Rattle.grammar.specs.Reading.{Class, one_texts, nothing_texts, both_texts, follow_texts, value_texts, either_texts}
use Rattle.grammar.specs.Repeats.{all_repeats, repeats_texts, always, step_to, second_of}
use Rattle.sql_tokens.specs.declared.kind.TokenKind.{TokenKind}
use Rattle.sql_tokens.specs.declared.kind.TokenKind.TheVariants as kinds
use Rattle.sql_tokens.specs.declared.token.Token.{Token}
use Rattle.sql_expressions.specs.Grammar.{Texts, any, nesting}
use Rattle.sql_expressions.specs.Levels as level
use Rattle.sql_expressions.specs.Levels.{Deep, Parts}
use Rattle.sql_ast.specs.Expressions.{Tree, negated, binary, inverted}
use Rattle.sql_tokens.specs.Classes.{a}
use Rattle.sql_ast.specs.declared.leaf.Operator.{Operator}
use Rattle.sql_ast.specs.declared.leaf.Operator.TheVariants as operator
use Rattle.sql_expressions.proofs.DepthLaws.{unary_to, negation_to}
use Rattle.sql_written.specs.Marks.{Mark}
use Rattle.sql_written.specs.Precedence.{Level, disjunction, conjunction, negation, nullity, comparison, test, sum, product, unary, rank, is_looser, level_of_operator, left_place, right_place}
use Rattle.sql_written.specs.Spelling as spelled
use Rattle.sql_written.specs.Writable.{deeper_by}
use Rattle.sql_written.specs.Written.{in_parentheses}
use Rattle.sql_written.proofs.Said.{Are, token, parted}
use Rattle.sql_written.proofs.LeafTexts.{only}

abbrev pub Of : Type 0 → Type 1
Of A = List Token → A → Type 0

-- chains
abbrev pub chain_texts : {A B C : Type 0} → Class Token → (C → A) → (A → Token → B → A) → Of C → Of B → Of A
chain_texts {A} sign first join Q P = value_texts second_of (follow_texts Q (λ c. repeats_texts always join (λ (l : A). both_texts (one_texts sign) P) (first c)))

all_end : {A B : Type 0} (join : A → Token → B → A) (P : A → List Token → Token × B → Type 0) (l b : A) (xs : List (Token × B)) (x : Token × B) (ts u : List Token) → all_repeats always join P l xs ts b → P b u x →
    all_repeats always join P l (xs ++ x ∷ []) (ts ++ u) (step_to join b x)
all_end join P l b [] x ts u h k = (refl, u, [], ap (λ z. z ++ u) h.0 ∙ sym (append-nil u), subst (λ c. P c u x) h.1 k, (refl, ap (λ c. step_to join c x) h.1))
all_end join P l b (y ∷ xs) x ts u h k =
    (refl, h.1, h.2 ++ u, ap (λ z. z ++ u) h.3 ∙ append_assoc h.1 h.2 u, h.4, all_end join P (step_to join l y) b xs x h.2 u h.5 k)

module _ {A B C : Type 0} (sign : Class Token) (first : C → A) (join : A → Token → B → A) (Q : Of C) (P : Of B) where
  pub chain_has : (ts : List Token) (c : C) → Q ts c → chain_texts sign first join Q P ts (first c)
  chain_has ts c h = ((c, first c), (ts, [], sym (append-nil ts), h, ([], (refl, refl))), refl)

  pub chain_on : (ts u : List Token) (l : A) (s : Token) (b : B) → sign s ≡ true → chain_texts sign first join Q P ts l → P u b → chain_texts sign first join Q P (ts ++ s ∷ u) (join l s b)
  chain_on ts u l s b e h k =
      let p = h.1 in
      let here = subst (λ (x : A). all_repeats always join (λ (d : A). both_texts (one_texts sign) P) (first h.0.0) p.4.0 p.1 x) (sym h.2) p.4.1 in (
        (h.0.0, join l s b),
        (
          p.0,
          p.1 ++ s ∷ u,
          ap (λ z. z ++ s ∷ u) p.2 ∙ append_assoc p.0 p.1 (s ∷ u),
          p.3,
          (p.4.0 ++ (s, b) ∷ [], all_end join (λ (d : A). both_texts (one_texts sign) P) (first h.0.0) l p.4.0 (s, b) p.1 (s ∷ u) here (s ∷ [], u, refl, (refl, e), k)),
        ),
        refl,
      )

module _ (text : List ℕ) where
  abbrev endlessly : Texts
  endlessly = record { unary = AtSome (λ n. (nesting text n).unary); negation = AtSome (λ n. (nesting text n).negation) }

  -- the levels
  abbrev pub comparison_texts : Of Deep
  comparison_texts = value_texts second_of (follow_texts (any text).test.texts (λ x. either_texts (level.compared (any text) x).texts (nothing_texts x)))

  abbrev pub nullity_texts : Of Deep
  nullity_texts = chain_texts (a kinds.Is) level.itself level.null_join comparison_texts level.null_or_not.free

  abbrev pub texts_at : Level → Of Deep
  texts_at disjunction = (any text).expression.texts
  texts_at conjunction = (any text).conjunction.texts
  texts_at negation = (any text).negation.texts
  texts_at nullity = nullity_texts
  texts_at comparison = comparison_texts
  texts_at test = (any text).test.texts
  texts_at sum = (any text).sum.texts
  texts_at product = (any text).product.texts
  texts_at unary = (any text).unary.texts

  -- a looser level has the texts of a tighter one
  abbrev looser : Level → Level
  looser disjunction = disjunction
  looser conjunction = disjunction
  looser negation = conjunction
  looser nullity = negation
  looser comparison = nullity
  looser test = comparison
  looser sum = test
  looser product = sum
  looser unary = product

  up_one : (s : Level) (ts : List Token) (x : Deep) → texts_at s ts x → texts_at (looser s) ts x
  up_one disjunction ts x h = h
  up_one conjunction ts x h = (level.only_part x, ((x, level.only_part x), (ts, [], sym (append-nil ts), h, ([], (refl, refl))), refl), refl)
  up_one negation ts x h = (level.only_part x, ((x, level.only_part x), (ts, [], sym (append-nil ts), h, ([], (refl, refl))), refl), refl)
  up_one nullity ts x h = negation_to text ts x (inr h)
  up_one comparison ts x h = chain_has (a kinds.Is) level.itself level.null_join comparison_texts level.null_or_not.free ts x h
  up_one test ts x h = ((x, x), (ts, [], sym (append-nil ts), h, inr (refl, refl)), refl)
  up_one sum ts x h = ((x, x), (ts, [], sym (append-nil ts), h, inr (refl, refl)), refl)
  up_one product ts x h = chain_has level.is_sum level.itself level.join (any text).product.texts (any text).product.texts ts x h
  up_one unary ts x h = chain_has level.is_product level.itself level.join (any text).unary.texts (any text).unary.texts ts x h

  abbrev up_by : ℕ → Level → Level
  up_by zero s = s
  up_by (suc k) s = up_by k (looser s)

  up : (k : ℕ) (s : Level) (ts : List Token) (x : Deep) → texts_at s ts x → texts_at (up_by k s) ts x
  up zero s ts x h = h
  up (suc k) s ts x h = up k (looser s) ts x (up_one s ts x h)

  from_disjunction : (place : Level) → is_looser place disjunction ≡ false → up_by (rank disjunction - rank place) disjunction ≡ place
  from_disjunction disjunction h = refl
  from_disjunction _ h = cc

  from_conjunction : (place : Level) → is_looser place conjunction ≡ false → up_by (rank conjunction - rank place) conjunction ≡ place
  from_conjunction disjunction h = refl
  from_conjunction conjunction h = refl
  from_conjunction _ h = cc

  from_negation : (place : Level) → is_looser place negation ≡ false → up_by (rank negation - rank place) negation ≡ place
  from_negation disjunction h = refl
  from_negation conjunction h = refl
  from_negation negation h = refl
  from_negation _ h = cc

  from_nullity : (place : Level) → is_looser place nullity ≡ false → up_by (rank nullity - rank place) nullity ≡ place
  from_nullity disjunction h = refl
  from_nullity conjunction h = refl
  from_nullity negation h = refl
  from_nullity nullity h = refl
  from_nullity _ h = cc

  from_comparison : (place : Level) → is_looser place comparison ≡ false → up_by (rank comparison - rank place) comparison ≡ place
  from_comparison disjunction h = refl
  from_comparison conjunction h = refl
  from_comparison negation h = refl
  from_comparison nullity h = refl
  from_comparison comparison h = refl
  from_comparison _ h = cc

  from_test : (place : Level) → is_looser place test ≡ false → up_by (rank test - rank place) test ≡ place
  from_test disjunction h = refl
  from_test conjunction h = refl
  from_test negation h = refl
  from_test nullity h = refl
  from_test comparison h = refl
  from_test test h = refl
  from_test _ h = cc

  from_sum : (place : Level) → is_looser place sum ≡ false → up_by (rank sum - rank place) sum ≡ place
  from_sum product h = cc
  from_sum unary h = cc
  from_sum disjunction h = refl
  from_sum conjunction h = refl
  from_sum negation h = refl
  from_sum nullity h = refl
  from_sum comparison h = refl
  from_sum test h = refl
  from_sum sum h = refl

  from_product : (place : Level) → is_looser place product ≡ false → up_by (rank product - rank place) product ≡ place
  from_product unary h = cc
  from_product disjunction h = refl
  from_product conjunction h = refl
  from_product negation h = refl
  from_product nullity h = refl
  from_product comparison h = refl
  from_product test h = refl
  from_product sum h = refl
  from_product product h = refl

  from_unary : (place : Level) → is_looser place unary ≡ false → up_by (rank unary - rank place) unary ≡ place
  from_unary disjunction h = refl
  from_unary conjunction h = refl
  from_unary negation h = refl
  from_unary nullity h = refl
  from_unary comparison h = refl
  from_unary test h = refl
  from_unary sum h = refl
  from_unary product h = refl
  from_unary unary h = refl

  reaches : (own place : Level) → is_looser place own ≡ false → up_by (rank own - rank place) own ≡ place
  reaches disjunction place h = from_disjunction place h
  reaches conjunction place h = from_conjunction place h
  reaches negation place h = from_negation place h
  reaches nullity place h = from_nullity place h
  reaches comparison place h = from_comparison place h
  reaches test place h = from_test place h
  reaches sum place h = from_sum place h
  reaches product place h = from_product place h
  reaches unary place h = from_unary place h

  pub climb : (own place : Level) (ts : List Token) (x : Deep) → is_looser place own ≡ false → texts_at own ts x → texts_at place ts x
  climb own place ts x h w = subst (λ (s : Level). texts_at s ts x) (reaches own place h) (up (rank own - rank place) own ts x w)

  pub loosest : (own : Level) → is_looser disjunction own ≡ false
  loosest disjunction = refl
  loosest conjunction = refl
  loosest negation = refl
  loosest nullity = refl
  loosest comparison = refl
  loosest test = refl
  loosest sum = refl
  loosest product = refl
  loosest unary = refl

  tightest : (place : Level) → is_looser place unary ≡ false
  tightest disjunction = refl
  tightest conjunction = refl
  tightest negation = refl
  tightest nullity = refl
  tightest comparison = refl
  tightest test = refl
  tightest sum = refl
  tightest product = refl
  tightest unary = refl

  -- "(" expr ")"
  enclosed : (from to m n : ℕ) (ts u v : List Token) (x : Deep) → u ≡ token kinds.OpenParenthesis from to ∷ v → v ≡ ts ++ token kinds.CloseParenthesis m n ∷ [] → (any text).expression.texts ts x → (any text).unary.texts u (level.deeper x)
  enclosed from to m n ts u v x d e h =
      let s = token kinds.OpenParenthesis from to in
      let t = token kinds.CloseParenthesis m n in
      unary_to text u (level.deeper x) (inl (inr (x, ((s, x), (s ∷ [], v, d, (refl, refl), ((x, t), (ts, t ∷ [], e, h, (refl, refl)), refl)), refl), refl)))

  -- an operand, in parentheses where its place needs them
  pub operand : (place own : Level) (e : Tree) (ms : List Mark) (d : ℕ) (b : Bool) → is_looser place own ≡ b → ((ts : List Token) → Are text ts ms → texts_at own ts (e, d)) →
      (ts : List Token) → Are text ts (in_parentheses b ms) → texts_at place ts (e, deeper_by b d)
  operand place own e ms d false h on ts w = climb own place ts (e, d) h (on ts w)
  operand place own e ms d true h on ts w =
      let p = parted text w.2 ms (spelled.closing ∷ []) w.5 in
      climb unary place ts (e, suc d) (tightest place)
      (enclosed w.0 w.1 p.4.0 p.4.1 p.0 ts w.2 (e, d) w.3 (p.2 ∙ ap (λ r. p.0 ++ r) (only text kinds.CloseParenthesis (codes ")") p.1 p.4)) (climb own disjunction p.0 (e, d) (loosest own) (on p.0 p.3)))

  -- "-" unary, "NOT" negation
  pub minus_texts : (from to : ℕ) (ts u : List Token) (x : Deep) → u ≡ token kinds.Minus from to ∷ ts → (any text).unary.texts ts x → (any text).unary.texts u (level.under negated x)
  minus_texts from to ts u x e h = let s = token kinds.Minus from to in unary_to text u (level.under negated x) (inl (inl (x, ((s, x), (s ∷ [], ts, e, (refl, refl), h), refl), refl)))

  pub not_texts : (from to : ℕ) (ts u : List Token) (x : Deep) → u ≡ token kinds.Not from to ∷ ts → (any text).negation.texts ts x → (any text).negation.texts u (level.under inverted x)
  not_texts from to ts u x e h = let s = token kinds.Not from to in negation_to text u (level.under inverted x) (inl (x, ((s, x), (s ∷ [], ts, e, (refl, refl), h), refl), refl))

  -- binary operators
  sum_on : (s : Token) (x y : List Token) (l r : Deep) → level.is_sum s ≡ true → (any text).sum.texts x l → (any text).product.texts y r → (any text).sum.texts (x ++ s ∷ y) (level.join l s r)
  sum_on s x y l r e h k = chain_on level.is_sum level.itself level.join (any text).product.texts (any text).product.texts x y l s r e h k

  product_on : (s : Token) (x y : List Token) (l r : Deep) → level.is_product s ≡ true → (any text).product.texts x l → (any text).unary.texts y r → (any text).product.texts (x ++ s ∷ y) (level.join l s r)
  product_on s x y l r e h k = chain_on level.is_product level.itself level.join (any text).unary.texts (any text).unary.texts x y l s r e h k

  compared_on : (s : Token) (x y : List Token) (l r : Deep) → level.is_comparison s ≡ true → (any text).test.texts x l → (any text).test.texts y r → comparison_texts (x ++ s ∷ y) (level.join l s r)
  compared_on s x y l r e h k = ((l, level.join l s r), (x, s ∷ y, refl, h, inl ((s, r), (s ∷ [], y, refl, (refl, e), k), refl)), refl)

  abbrev pub sign_kind : Operator → TokenKind
  sign_kind operator.Add = kinds.Plus
  sign_kind operator.Subtract = kinds.Minus
  sign_kind operator.Multiply = kinds.Star
  sign_kind operator.Divide = kinds.Slash
  sign_kind operator.Remainder = kinds.Percent
  sign_kind operator.Equal = kinds.Equal
  sign_kind operator.NotEqual = kinds.NotEqual
  sign_kind operator.Less = kinds.Less
  sign_kind operator.LessEqual = kinds.LessEqual
  sign_kind operator.Greater = kinds.Greater
  sign_kind operator.GreaterEqual = kinds.GreaterEqual

  pub binary_at : (op : Operator) (from to : ℕ) (x y : List Token) (l r : Deep) → texts_at (left_place op) x l → texts_at (right_place op) y r →
      texts_at (level_of_operator op) (x ++ token (sign_kind op) from to ∷ y) (binary op l.0 r.0, suc (max l.1 r.1))
  binary_at operator.Add from to x y l r h k = sum_on (token kinds.Plus from to) x y l r refl h k
  binary_at operator.Subtract from to x y l r h k = sum_on (token kinds.Minus from to) x y l r refl h k
  binary_at operator.Multiply from to x y l r h k = product_on (token kinds.Star from to) x y l r refl h k
  binary_at operator.Divide from to x y l r h k = product_on (token kinds.Slash from to) x y l r refl h k
  binary_at operator.Remainder from to x y l r h k = product_on (token kinds.Percent from to) x y l r refl h k
  binary_at operator.Equal from to x y l r h k = compared_on (token kinds.Equal from to) x y l r refl h k
  binary_at operator.NotEqual from to x y l r h k = compared_on (token kinds.NotEqual from to) x y l r refl h k
  binary_at operator.Less from to x y l r h k = compared_on (token kinds.Less from to) x y l r refl h k
  binary_at operator.LessEqual from to x y l r h k = compared_on (token kinds.LessEqual from to) x y l r refl h k
  binary_at operator.Greater from to x y l r h k = compared_on (token kinds.Greater from to) x y l r refl h k
  binary_at operator.GreaterEqual from to x y l r h k = compared_on (token kinds.GreaterEqual from to) x y l r refl h k
