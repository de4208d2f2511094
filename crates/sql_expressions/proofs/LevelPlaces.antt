-- The walk over the texts of each level of an expression: it ends behind an operand, and where an operand of BETWEEN begins
-- another may begin.
use Rattle.std.proofs.Common.{◌≡◌, ℕ, zero, suc, Bool, true, false, not, ◌&&◌, ◌||◌, List, [], ◌∷◌, inl, inr, refl, sym}
use Rattle.std.specs.Prelude.{◌⊎◌}
use Rattle.std.proofs.lemmas.List.{append-nil}
use Rattle.grammar.specs.Depths.{AtSome}
use Rattle.grammar.specs.Reading.{Class, Rule, nothing_texts, follow_texts, value_texts, either_texts, nothing, as_value}
use Rattle.grammar.specs.Repeats.{always, second_of}
use Rattle.sql_tokens.specs.Contents.{string_in}
use Rattle.sql_tokens.specs.Words as words
use Rattle.sql_tokens.specs.declared.kind.TokenKind.{TokenKind}
use Rattle.sql_tokens.specs.declared.kind.TokenKind.TheVariants as word
use Rattle.sql_tokens.specs.declared.token.Token.{Token}
use Rattle.sql_expressions.specs.Grammar.{Texts, endless, product_over, sum_over, conjunction_over, expression_over, test_over, over, nullity_over, nesting, any}
use Rattle.sql_expressions.specs.Levels as Levels
use Rattle.sql_expressions.specs.Levels.{Deep, Parts, Rules}
use Rattle.sql_tokens.specs.Classes.{a, a_name}
use Rattle.sql_expressions.specs.Words.{a_literal, is_long_name, is_long_text, no_longer, name, string, literal, column, either_if}
use Rattle.sql_expressions.specs.Words as Words
use Rattle.sql_ast.specs.declared.leaf.Leaf.{Leaf}
use Rattle.sql_ast.specs.declared.leaf.Leaf.TheVariants as leaf
use Rattle.sql_expressions.proofs.DepthLaws.{unary_to, negation_to}
use Rattle.sql_expressions.proofs.LevelLaws.{begins_leaf, begins_unary, nested_opens, call_opens}
use Rattle.sql_expressions.proofs.RuleLaws.{any_sample, rules_laws}
use Rattle.sql_expressions.proofs.WordLaws.{sample, within}
use Rattle.sql_expressions.proofs.Walk.{Of, Place, before, bound, dot, denied, behind, Leads, leads, NotBound, not_bound, Fits, into, one_fits, nothing_fits, value_fits, either_fits, follow_fits, both_fits, behind_fits, shut, value_shut, either_shut, before_fits, chain_fits, from_bound}

-- operands that begin with a token
long_or_not : (c long : Class Token) (t : Token) (v : Bool) → long t ≡ v → c t ≡ true → (no_longer c long).free (t ∷ []) t
long_or_not c long t true e h = inl (refl, e)
long_or_not c long t false e h = inr (refl, rw (e, h) refl)

module _ (text : List ℕ) where
  pub name_there : (t : Token) → a_name t ≡ true → (name text).free (t ∷ []) (Words.named text t)
  name_there t h = (t, long_or_not a_name (is_long_name text) t (is_long_name text t) refl h, refl)

  literal_there : (t : Token) → a_literal t ≡ true → (literal text).free (t ∷ []) (Words.literal_of text t)
  literal_there t h = (t, long_or_not a_literal (is_long_text text) t (is_long_text text t) refl h, refl)

  abbrev Opened : Of Deep → Token → Type 0
  Opened U u = (more : List Token) × (x : Deep) × U (u ∷ more) x

  named_opened : (u : Token) → a_name u ≡ true → Opened (any text).unary.texts u
  named_opened u h =
      let x = Words.named text u in
      let o = (call_opens (any text) (any_sample text) x.1).text (sample word.OpenParenthesis) refl in (
        sample word.OpenParenthesis ∷ o.0,
        o.1,
        unary_to text (u ∷ sample word.OpenParenthesis ∷ o.0) o.1
            (inr (inl ((x, o.1), (u ∷ [], sample word.OpenParenthesis ∷ o.0, refl, name_there u h, inl o.2), refl))),
      )

  literal_opened : (u : Token) → a_literal u ≡ true → Opened (any text).unary.texts u
  literal_opened u h =
      let x = Words.literal_of text u in
      ([], Levels.flat x, unary_to text (u ∷ []) (Levels.flat x) (inr (inr (x, literal_there u h, refl))))

  nested_opened : (u : Token) → Levels.begins_nested u ≡ true → Opened (any text).unary.texts u
  nested_opened u h =
      let o = (nested_opens (any text) (any_sample text)).text u h in
      (o.0, o.1, unary_to text (u ∷ o.0) o.1 (inl o.2))

  second_true : (b d : Bool) → b ≡ false → (b || d) ≡ true → d ≡ true
  second_true true d e h = cc
  second_true false d e h = h

  leaf_opened : (u : Token) (v : Bool) → a_name u ≡ v → begins_leaf u ≡ true → Opened (any text).unary.texts u
  leaf_opened u true e h = named_opened u e
  leaf_opened u false e h = literal_opened u (second_true (a_name u) (a_literal u) e h)

  unary_opened_by : (u : Token) (v : Bool) → Levels.begins_nested u ≡ v → begins_unary u ≡ true → Opened (any text).unary.texts u
  unary_opened_by u true e h = nested_opened u e
  unary_opened_by u false e h = leaf_opened u (a_name u) refl (second_true (Levels.begins_nested u) (begins_leaf u) e h)

  -- an operand alone
  module _ (x : List Token) (d : Deep) where
    alone_sum : (any text).unary.texts x d → (any text).sum.texts x d
    alone_sum k = ((d, d), (x, [], sym (append-nil x), ((d, d), (x, [], sym (append-nil x), k, ([], (refl, refl))), refl), ([], (refl, refl))), refl)

    alone_negation : (any text).unary.texts x d → (any text).negation.texts x d
    alone_negation k =
        negation_to text x d
        (inr ((d, d), (x, [], sym (append-nil x), ((d, d), (x, [], sym (append-nil x), ((d, d), (x, [], sym (append-nil x), alone_sum k, inr (refl, refl)), refl), inr (refl, refl)), refl), ([], (refl, refl))), refl))

    abbrev only : Parts
    only = Levels.only_part d

    pub alone : (any text).unary.texts x d → (any text).expression.texts x d
    alone k =
        (only, ((d, only), (x, [], sym (append-nil x), (only, ((d, only), (x, [], sym (append-nil x), alone_negation k, ([], (refl, refl))), refl), refl), ([], (refl, refl))), refl), refl)

  sum_opened : (u : Token) → begins_unary u ≡ true → Opened (any text).sum.texts u
  sum_opened u h = let o = unary_opened_by u (Levels.begins_nested u) refl h in (o.0, o.1, alone_sum (u ∷ o.0) o.1 o.2)

  sum_begins : (t : Token) (x : List Token) (d : Deep) → (any text).sum.texts (t ∷ x) d → begins_unary t ≡ true
  sum_begins t x d k = (rules_laws text 0).sum.shape.begins t x d k

  sum_some : (d : Deep) → (any text).sum.texts [] d → ⊥
  sum_some d k = let e : false ≡ true = (rules_laws text 0).sum.shape.empty d k in cc

-- the levels over texts that fit
module _ (u : Token) (h : begins_unary u ≡ true) (text : List ℕ) where
  abbrev pub Operand : Of Deep → Of Deep → Type 0
  Operand P U = Fits u h before behind P U

  before_free : NotBound before
  before_free = not_bound before refl

  behind_free : NotBound behind
  behind_free = not_bound behind refl

  denied_free : NotBound denied
  denied_free = not_bound denied refl

  open_inside : Leads before (a word.OpenParenthesis) before
  open_inside = leads before before (a word.OpenParenthesis) (λ t. refl) refl

  close_behind : Leads behind (a word.CloseParenthesis) behind
  close_behind = leads behind behind (a word.CloseParenthesis) (λ t. refl) refl

  close_before : Leads before (a word.CloseParenthesis) behind
  close_before = leads before behind (a word.CloseParenthesis) (λ t. refl) refl

  -- names, literals and columns
  long_fits : {p q : Place} (c long : Class Token) → NotBound p → ((t : Token) → long t ≡ true → c t ≡ true) → Leads p c q → Fits u h p q (no_longer c long).free (no_longer c long).free
  long_fits c long n w l =
      either_fits u h (one_fits u h long n (λ t e. l t (w t e))) (one_fits u h (λ t. c t && not (long t)) n (λ t e. l t (first_true (c t) _ e)))
    where
      first_true : (b d : Bool) → (b && d) ≡ true → b ≡ true
      first_true true d e = refl
      first_true false d e = cc

  and_left : (b d : Bool) → (b && d) ≡ true → b ≡ true
  and_left true d e = refl
  and_left false d e = cc

  name_fits : {p : Place} → NotBound p → Leads p a_name behind → Fits u h p behind (name text).free (name text).free
  name_fits n l = value_fits u h (Words.named text) (long_fits a_name (is_long_name text) n (λ t e. and_left (a_name t) _ e) l)

  string_fits : Fits u h behind behind (string text).free (string text).free
  string_fits = value_fits u h (string_in text) (long_fits (a word.Text) (is_long_text text) behind_free (λ t e. and_left (a word.Text t) _ e) (leads behind behind (a word.Text) (λ t. refl) refl))

  text_literal : (t : Token) → a word.Text t ≡ true → a_literal t ≡ true
  text_literal = within (a word.Text) a_literal (λ t. refl) refl

  literal_fits : Fits u h before behind (literal text).free (literal text).free
  literal_fits =
      value_fits u h (Words.literal_of text)
      (long_fits a_literal (is_long_text text) before_free (λ t e. text_literal t (and_left (a word.Text t) _ e)) (leads before behind a_literal (λ t. refl) refl))

  abbrev Goes_on : {A : Type 0} → Rule Token A → Type 0
  Goes_on p = Fits u h behind behind p.free p.free

  if_fits : {A : Type 0} (b : Bool) (c : Class Token) (p q : Rule Token A) → Goes_on p → Goes_on q → Goes_on (either_if b c p q)
  if_fits true c p q l m = either_fits u h l m
  if_fits false c p q l m = m

  cast_fits : (l : Leaf) → Goes_on (Words.cast l)
  cast_fits l =
      value_fits u h (λ (t : Token). l)
      (behind_fits u h word.TypeCast behind_free (leads behind before (a word.TypeCast) (λ t. refl) refl)
      (one_fits u h (a word.Regclass) before_free (leads before behind (a word.Regclass) (λ t. refl) refl)))

  maybe_cast : (b : Bool) (l k : Leaf) → Goes_on (either_if b (a word.TypeCast) (Words.cast l) (nothing k))
  maybe_cast b l k = if_fits b (a word.TypeCast) (Words.cast l) (nothing k) (cast_fits l) (nothing_fits u h k)

  if_some : {A : Type 0} (b : Bool) (c : Class Token) (p q : Rule Token A) → (x : A) → q.free [] x → (either_if b c p q).free [] x
  if_some true c p q x k = inr k
  if_some false c p q x k = k

  dotted_fits : (table : List ℕ) → Goes_on (Words.dotted text table)
  dotted_fits table =
      behind_fits u h word.Dot behind_free (leads behind dot (a word.Dot) (λ t. refl) refl)
      (value_fits u h second_of (follow_fits u h {Q = λ x. (Words.column_of table x).free} {V = λ x. (Words.column_of table x).free} (name_fits (not_bound dot refl) (leads dot behind a_name (λ t. refl) refl))
      (λ x. maybe_cast (words.is x.0 word.Tableoid) (leaf.TableNameOf table) (leaf.ColumnOf table x.1))
      (λ c x y b k. ([], leaf.ColumnOf table x.1, if_some (words.is x.0 word.Tableoid) (a word.TypeCast) (Words.cast (leaf.TableNameOf table)) (nothing (leaf.ColumnOf table x.1)) (leaf.ColumnOf table x.1) (refl, refl)))))

  column_fits : (x : TokenKind × List ℕ) → Goes_on (column text x)
  column_fits x =
      let casts = maybe_cast (words.is x.0 word.Tableoid) leaf.TableName (leaf.Column x.1) in
      either_fits u h (dotted_fits x.1)
      (if_fits (words.is x.0 word.Date) (a word.Text) (as_value leaf.Date (string text)) (either_if (words.is x.0 word.Tableoid) (a word.TypeCast) (Words.cast leaf.TableName) (nothing (leaf.Column x.1)))
      (value_fits u h leaf.Date string_fits) casts)

  null_or_not_fits : Fits u h before behind Levels.null_or_not.free Levels.null_or_not.free
  null_or_not_fits =
      let null = one_fits u h (a word.Null) before_free (leads before behind (a word.Null) (λ t. refl) refl) in
      either_fits u h (value_fits u h (Levels.said true) (behind_fits u h word.Not before_free (leads before before (a word.Not) (λ t. refl) refl) null)) (value_fits u h (Levels.said false) null)

  module _ (K : Texts) (unaries : Operand K.unary (any text).unary.texts) (negations : Operand K.negation (any text).negation.texts) where
    products : Operand (product_over K).texts (any text).product.texts
    products = chain_fits u h Levels.is_product (Levels.has_room endless) Levels.itself Levels.join (leads behind before Levels.is_product (λ t. refl) refl) unaries unaries

    sums : Operand (sum_over K).texts (any text).sum.texts
    sums = chain_fits u h Levels.is_sum (Levels.has_room endless) Levels.itself Levels.join (leads behind before Levels.is_sum (λ t. refl) refl) products products

    bound_sums : Fits u h bound behind (sum_over K).texts (any text).sum.texts
    bound_sums = from_bound u h (sum_begins text) (sum_some text) (sum_opened text u h) sums

    conjunctions : Operand (conjunction_over K).texts (any text).conjunction.texts
    conjunctions = value_fits u h Levels.all_value (chain_fits u h (a word.And) (Levels.parts_room endless) Levels.only_part Levels.add_part (leads behind before (a word.And) (λ t. refl) refl) negations negations)

    expressions : Operand (expression_over K).texts (any text).expression.texts
    expressions = value_fits u h Levels.any_value (chain_fits u h (a word.Or) (Levels.parts_room endless) Levels.only_part Levels.add_part (leads behind before (a word.Or) (λ t. refl) refl) conjunctions conjunctions)

    lists : Fits u h before behind (Levels.list_of (expression_over K)).texts (Levels.list_of (any text).expression).texts
    lists = chain_fits u h (a word.Comma) always Levels.only_part Levels.add_part (leads behind before (a word.Comma) (λ t. refl) refl) expressions expressions

    calls : (f : List ℕ) → Fits u h behind behind (Levels.call_of (expression_over K) f).texts (Levels.call_of (any text).expression f).texts
    calls f =
        behind_fits u h word.OpenParenthesis behind_free (leads behind before (a word.OpenParenthesis) (λ t. refl) refl)
        (before_fits u h (either_shut u h
        (shut u h close_before (value_fits u h (Levels.all_call f) (one_fits u h (a word.Star) before_free (leads before before (a word.Star) (λ t. refl) refl))))
        (value_shut u h (Levels.call_value f) (either_shut u h (shut u h close_behind lists) (shut u h close_before (nothing_fits u h ([], 0)))))))

    nested : Operand (Levels.nested (over K)).texts (Levels.nested (any text)).texts
    nested =
        either_fits u h (value_fits u h (Levels.under _) (behind_fits u h word.Minus before_free (leads before before (a word.Minus) (λ t. refl) refl) unaries))
        (value_fits u h Levels.deeper (behind_fits u h word.OpenParenthesis before_free open_inside (before_fits u h (shut u h close_behind expressions))))

    in_or_between : {p : Place} (b : Bool) (x : Deep) → NotBound p → Leads p (a word.In) before → Leads p (a word.Between) bound →
        Fits u h p behind (Levels.in_or_between (over K) b x).texts (Levels.in_or_between (any text) b x).texts
    in_or_between b x n i j =
        either_fits u h
        (value_fits u h (Levels.in_value b x) (behind_fits u h word.In n i (behind_fits u h word.OpenParenthesis before_free open_inside (before_fits u h (shut u h close_behind lists)))))
        (value_fits u h (Levels.between_value b x) (behind_fits u h word.Between n j (both_fits u h bound_sums (behind_fits u h word.And behind_free (leads behind before (a word.And) (λ t. refl) refl) sums))))

    tested : (x : Deep) → Fits u h behind behind (Levels.tested (over K) x).texts (Levels.tested (any text) x).texts
    tested x =
        either_fits u h
        (behind_fits u h word.Not behind_free (leads behind denied (a word.Not) (λ t. refl) refl)
        (in_or_between true x denied_free (leads denied before (a word.In) (λ t. refl) refl) (leads denied bound (a word.Between) (λ t. refl) refl)))
        (in_or_between false x behind_free (leads behind before (a word.In) (λ t. refl) refl) (leads behind bound (a word.Between) (λ t. refl) refl))

    tests : Operand (test_over K).texts (any text).test.texts
    tests =
        value_fits u h second_of (follow_fits u h {Q = λ x. either_texts (Levels.tested (over K) x).texts (nothing_texts x)} {V = λ x. either_texts (Levels.tested (any text) x).texts (nothing_texts x)} sums
        (λ x. either_fits u h (tested x) (nothing_fits u h x)) (λ c x y b k. ([], x, inr (refl, refl))))

    compared : (x : Deep) → Fits u h behind behind (Levels.compared (over K) x).texts (Levels.compared (any text) x).texts
    compared x = value_fits u h (Levels.compared_value x) (both_fits u h (one_fits u h Levels.is_comparison behind_free (leads behind before Levels.is_comparison (λ t. refl) refl)) tests)

    abbrev comparison_texts : Rules → Of Deep
    comparison_texts r = value_texts second_of (follow_texts r.test.texts (λ x. either_texts (Levels.compared r x).texts (nothing_texts x)))

    comparisons : Operand (comparison_texts (over K)) (comparison_texts (any text))
    comparisons =
        value_fits u h second_of (follow_fits u h {Q = λ x. either_texts (Levels.compared (over K) x).texts (nothing_texts x)} {V = λ x. either_texts (Levels.compared (any text) x).texts (nothing_texts x)} tests
        (λ x. either_fits u h (compared x) (nothing_fits u h x)) (λ c x y b k. ([], x, inr (refl, refl))))

    next_negation : Operand (Levels.negation endless (over K) (over K) (nullity_over K)).free (any text).negation.texts
    next_negation =
        into u h (either_fits u h (value_fits u h (Levels.under _) (behind_fits u h word.Not before_free (leads before before (a word.Not) (λ t. refl) refl) negations))
        (chain_fits u h (a word.Is) always Levels.itself Levels.null_join (leads behind before (a word.Is) (λ t. refl) refl) comparisons null_or_not_fits)) (negation_to text)

    abbrev behind_name_texts : Rules → TokenKind × List ℕ → Of Deep
    behind_name_texts r x = either_texts (Levels.call_of r.expression x.1).texts (as_value Levels.flat (column text x)).free

    next_unary : Operand (Levels.unary text endless (over K) (over K)).free (any text).unary.texts
    next_unary =
        into u h (either_fits u h nested (either_fits u h
        (value_fits u h second_of (follow_fits u h {Q = behind_name_texts (over K)} {V = behind_name_texts (any text)} (name_fits before_free (leads before behind a_name (λ t. refl) refl))
        (λ x. either_fits u h (calls x.1) (value_fits u h Levels.flat (column_fits x)))
        (λ c x y b k. let o = (call_opens (any text) (any_sample text) x.1).text (sample word.OpenParenthesis) refl in (sample word.OpenParenthesis ∷ o.0, o.1, inl o.2))))
        (value_fits u h Levels.flat literal_fits))) (unary_to text)

  -- texts of every nesting
  record Held (K : Texts) : Type 0 where
    unary : Operand K.unary (any text).unary.texts
    negation : Operand K.negation (any text).negation.texts

  no_texts : (U : Of Deep) → Operand (λ ts x. ⊥) U
  no_texts U = record { goes = λ ts x k. absurd k; inside = λ ts x k. absurd k; swaps = λ ts v w s x k e r. absurd k }

  more_texts : {P Q U : Of Deep} → Operand P U → Operand Q U → Operand (λ ts x. P ts x ⊎ Q ts x) U
  more_texts l m = into u h (either_fits u h l m) (λ ts x k. elim k [ inl i ↦ i | inr i ↦ i ])

  held : (n : ℕ) → Held (nesting text n)
  unfolding nesting
  held zero = record { unary = no_texts (any text).unary.texts; negation = no_texts (any text).negation.texts }
  held (suc n) =
      let l = held n in
      record { unary = more_texts l.unary (next_unary (nesting text n) l.unary l.negation); negation = more_texts l.negation (next_negation (nesting text n) l.unary l.negation) }

  module _ (F : ℕ → Of Deep) (U : Of Deep) (l : (n : ℕ) → Operand (F n) U) where
    some_fits : Operand (AtSome F) U
    some_fits = record {
      goes = λ ts x k. (l k.0).goes ts x k.1;
      inside = λ ts x k. (l k.0).inside ts x k.1;
      swaps = λ ts v w s x k e r. (l k.0).swaps ts v w s x k.1 e r;
    }

  abbrev endlessly : Texts
  endlessly = record { unary = AtSome (λ n. (nesting text n).unary); negation = AtSome (λ n. (nesting text n).negation) }

  pub all_expressions : Operand (any text).expression.texts (any text).expression.texts
  all_expressions =
      expressions endlessly (some_fits (λ n. (nesting text n).unary) (any text).unary.texts (λ n. (held n).unary))
      (some_fits (λ n. (nesting text n).negation) (any text).negation.texts (λ n. (held n).negation))
