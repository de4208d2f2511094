-- Each level keeps the law, in any room, if its operands do; where no more has room, they need not.
use Rattle.std.proofs.Common.{◌≡◌, ℕ, Bool, true, false, ◌||◌, List, [], ◌∷◌, ◌++◌, inl, inr, refl, sym, ◌∙◌, ap, subst}
use Rattle.std.proofs.lemmas.List.{append-nil}
use Rattle.grammar.specs.Reading.{Class, Rule, one, one_texts, nothing, both_texts, value_texts, either_texts, as_value, either}
use Rattle.grammar.specs.Repeats.{second_of, always}
use Rattle.grammar.proofs.Laws.{Law, Disjoint, head_eq, or_true_left, or_true_right}
use Rattle.grammar.proofs.Chain.{none, with, or_false}
use Rattle.grammar.proofs.Build.{token, empty, valued, wide, seq, then_by, alt, after_token, before_token, chained_by}
use Rattle.sql_tokens.specs.declared.kind.TokenKind.{TokenKind}
use Rattle.sql_tokens.specs.declared.kind.TokenKind.TheVariants as word
use Rattle.sql_tokens.specs.declared.token.Token.{Token}
use Rattle.sql_tokens.specs.Classes.{a, a_name}
use Rattle.sql_expressions.specs.Words.{a_literal, literal, column}
use Rattle.sql_expressions.specs.Levels.{Deep, Room, Rules, flat, under, deeper, itself, join, only_part, add_part, has_room, parts_room, list_of, begins_nested, begins_expression, all_call, call_value, arguments, call_of, behind_name, named_leaf, nested, unary, chain, is_product, is_sum, is_comparison, begins_test, in_value, between_value, in_or_between, tested, maybe_tested, test, compared_value, compared, maybe_compared, comparison, said, null_or_not, null_join, nullity, inverted_by, negation, parts, all_value, any_value, conjunction, disjunction}
use Rattle.sql_expressions.specs.Grammar.{freely}
use Rattle.sql_ast.specs.Expressions.{negated, inverted}
use Rattle.sql_expressions.proofs.RoomLaws.{Opens, if_room_law}
use Rattle.sql_expressions.proofs.WordLaws.{sample, apart, within, behind_column, name_law, literal_law, column_law}

-- what begins a text of a level, and what may go on behind one
abbrev pub begins_leaf : Class Token
begins_leaf t = a_name t || a_literal t

abbrev pub begins_unary : Class Token
begins_unary t = begins_nested t || begins_leaf t

abbrev pub after_unary : Class Token
after_unary t = a word.OpenParenthesis t || behind_column t

abbrev pub after_product : Class Token
after_product t = after_unary t || is_product t

abbrev pub after_sum : Class Token
after_sum t = after_product t || is_sum t

abbrev pub after_test : Class Token
after_test t = after_sum t || begins_test t

abbrev pub after_comparison : Class Token
after_comparison t = after_test t || is_comparison t

abbrev pub after_negation : Class Token
after_negation t = after_comparison t || a word.Is t

abbrev pub after_conjunction : Class Token
after_conjunction t = after_negation t || a word.And t

-- everything that may go on behind a whole expression
abbrev pub after_expression : Class Token
after_expression t = after_conjunction t || a word.Or t

pub record Laws (r : Rules) : Type 0 where
  pub unary : Law r.unary begins_unary false after_unary
  pub product : Law r.product begins_unary false after_product
  pub sum : Law r.sum begins_unary false after_sum
  pub test : Law r.test begins_unary false after_test
  pub negation : Law r.negation begins_expression false after_negation
  pub conjunction : Law r.conjunction begins_expression false after_conjunction
  pub expression : Law r.expression begins_expression false after_expression

-- one text of all levels
pub record Sample (r : Rules) : Type 0 where
  pub text : List Token
  pub value : Deep
  pub unary : r.unary.texts text value
  pub sum : r.sum.texts text value
  pub test : r.test.texts text value
  pub negation : r.negation.texts text value
  pub expression : r.expression.texts text value

-- the texts of r, and without limits those of `any`
abbrev pub within_any : Rules → Rules → Rules
within_any any r = record {
  unary = freely any.unary r.unary;
  product = freely any.product r.product;
  sum = freely any.sum r.sum;
  test = freely any.test r.test;
  negation = freely any.negation r.negation;
  conjunction = freely any.conjunction r.conjunction;
  expression = freely any.expression r.expression;
}

-- texts behind words, which open with the word
module _ {A : Type 0} (c : Class Token) (P : List Token → A → Type 0) where
  abbrev one_and : List Token → Token × A → Type 0
  one_and = both_texts (one_texts c) P

  one_and_begins : (t : Token) (x : List Token) (b : Token × A) → one_and (t ∷ x) b → c t ≡ true
  one_and_begins t x b w = subst (λ (u : Token). c u ≡ true) (sym (head_eq (w.2 ∙ ap (λ z. z ++ w.1) w.3.0))) w.3.1

  one_and_some : (b : Token × A) → one_and [] b → ⊥
  one_and_some b w = let e : [] ≡ b.0 ∷ w.1 = w.2 ∙ ap (λ z. z ++ w.1) w.3.0 in cc

  one_and_opens : (m : List Token) (b : A) → P m b → Opens one_and c
  one_and_opens m b p = record { begins = one_and_begins; some = one_and_some; text = λ t h. (m, (t, b), (t ∷ [], m, refl, (refl, h), p)) }

  abbrev behind_texts : List Token → A → Type 0
  behind_texts = value_texts (λ (x : Token × A). x.1) one_and

  behind_opens : (m : List Token) (b : A) → P m b → Opens behind_texts c
  behind_opens m b p = record {
    begins = λ t x d w. one_and_begins t x w.0 w.1;
    some = λ d w. one_and_some w.0 w.1;
    text = λ t h. (m, b, ((t, b), (t ∷ [], m, refl, (refl, h), p), refl));
  }

  behind_text : (t : Token) → c t ≡ true → (m : List Token) (b : A) → P m b → behind_texts (t ∷ m) b
  behind_text t h m b p = ((t, b), (t ∷ [], m, refl, (refl, h), p), refl)

  abbrev before_texts : List Token → A → Type 0
  before_texts = value_texts (λ (x : A × Token). x.0) (both_texts P (one_texts c))

  before_text : (t : Token) → c t ≡ true → (m : List Token) (b : A) → P m b → before_texts (m ++ t ∷ []) b
  before_text t h m b p = ((b, t), (m, t ∷ [], refl, p, (refl, h)), refl)

value_opens : {A B : Type 0} {P : List Token → A → Type 0} {c : Class Token} (f : A → B) → Opens P c → Opens (value_texts f P) c
value_opens f o = record {
  begins = λ t x b w. o.begins t x w.0 w.1;
  some = λ b w. o.some w.0 w.1;
  text = λ t h. let s = o.text t h in (s.0, f s.1, (s.1, s.2, refl));
}

module _ {A : Type 0} {P : List Token → A → Type 0} {Q : List Token → A → Type 0} {c : Class Token} {d : Class Token} (o : Opens P c) (o' : Opens Q d) where
  either_begins : (t : Token) (x : List Token) (b : A) → either_texts P Q (t ∷ x) b → (c t || d t) ≡ true
  either_begins t x b (inl w) = or_true_left (c t) (d t) (o.begins t x b w)
  either_begins t x b (inr w) = or_true_right (c t) (d t) (o'.begins t x b w)

  either_some : (b : A) → either_texts P Q [] b → ⊥
  either_some b (inl w) = o.some b w
  either_some b (inr w) = o'.some b w

  either_text : (t : Token) (v : Bool) → c t ≡ v → (c t || d t) ≡ true → (more : List Token) × (b : A) × either_texts P Q (t ∷ more) b
  either_text t true e h = let s = o.text t e in (s.0, s.1, inl s.2)
  either_text t false e h = let g : d t ≡ true = right_of (c t) (d t) e h in let s = o'.text t g in (s.0, s.1, inr s.2)
    where
      right_of : (u v : Bool) → u ≡ false → (u || v) ≡ true → v ≡ true
      right_of true v e h = cc
      right_of false v e h = h

  either_opens : Opens (either_texts P Q) (λ t. c t || d t)
  either_opens = record { begins = either_begins; some = either_some; text = λ t h. either_text t (c t) refl h }

-- what opens the texts of more operators, calls and parentheses
module _ (any : Rules) (s : Sample any) where
  one_listed : (list_of any.expression).texts s.text (only_part s.value)
  one_listed = ((s.value, only_part s.value), (s.text, [], sym (append-nil s.text), s.expression, ([], (refl, refl))), refl)

  pub nested_opens : Opens (nested any).texts begins_nested
  nested_opens =
      either_opens (value_opens (under negated) (behind_opens (a word.Minus) any.unary.texts s.text s.value s.unary))
      (value_opens deeper (behind_opens (a word.OpenParenthesis) (before_texts (a word.CloseParenthesis) any.expression.texts) _ s.value
      (before_text (a word.CloseParenthesis) any.expression.texts (sample word.CloseParenthesis) refl s.text s.value s.expression)))

  pub call_opens : (f : List ℕ) → Opens (call_of any.expression f).texts (a word.OpenParenthesis)
  call_opens f =
      behind_opens (a word.OpenParenthesis) _ _ (call_value f ([], 0))
      (before_text (a word.CloseParenthesis) (either_texts (as_value (all_call f) (one (a word.Star))).texts (as_value (call_value f) (arguments any.expression)).texts) (sample word.CloseParenthesis) refl [] (call_value f ([], 0))
      (inr (([], 0), inr (refl, refl), refl)))

  in_or_between_opens : (b : Bool) (x : Deep) → Opens (in_or_between any b x).texts (λ t. a word.In t || a word.Between t)
  in_or_between_opens b x =
      either_opens
      (value_opens (in_value b x) (behind_opens (a word.In) (behind_texts (a word.OpenParenthesis) (before_texts (a word.CloseParenthesis) (list_of any.expression).texts)) _ (only_part s.value)
      (behind_text (a word.OpenParenthesis) (before_texts (a word.CloseParenthesis) (list_of any.expression).texts) (sample word.OpenParenthesis) refl _ (only_part s.value)
      (before_text (a word.CloseParenthesis) (list_of any.expression).texts (sample word.CloseParenthesis) refl s.text (only_part s.value) one_listed))))
      (value_opens (between_value b x) (behind_opens (a word.Between) (both_texts any.sum.texts (behind_texts (a word.And) any.sum.texts)) (s.text ++ sample word.And ∷ s.text) (s.value, s.value)
      (s.text, sample word.And ∷ s.text, refl, s.sum, behind_text (a word.And) any.sum.texts (sample word.And) refl s.text s.value s.sum)))

  tested_opens : (x : Deep) → Opens (tested any x).texts begins_test
  tested_opens x =
      let o = (in_or_between_opens true x).text (sample word.In) refl in
      either_opens (behind_opens (a word.Not) (in_or_between any true x).texts (sample word.In ∷ o.0) o.1 o.2) (in_or_between_opens false x)

  compared_opens : (x : Deep) → Opens (compared any x).texts is_comparison
  compared_opens x = value_opens (compared_value x) (one_and_opens is_comparison any.test.texts s.text s.value s.test)

  inverted_opens : Opens (inverted_by any).texts (a word.Not)
  inverted_opens = value_opens (under inverted) (behind_opens (a word.Not) any.negation.texts s.text s.value s.negation)

-- more operators, calls and parentheses over rules that keep the law
list_law : {p : Rule Token Deep} {f : Class Token} {c : Class Token} → Law p f false c → Disjoint (a word.Comma) c → Law (list_of p) f false (with c (a word.Comma))
list_law l d = wide (chained_by (a word.Comma) (sample word.Comma) refl always only_part add_part l (λ _. l) d) (λ k h. or_false _ h) (λ k h. h)

-- what stands between the parentheses of a call
abbrev begins_inside : Class Token
begins_inside t = a word.Star t || begins_expression t

abbrev after_inside : Class Token
after_inside t = after_expression t || (a word.Comma t || begins_inside t)

module _ (r : Rules) (l : Laws r) where
  lists_law : Law (list_of r.expression) begins_expression false (with after_expression (a word.Comma))
  lists_law = list_law l.expression (apart _ _ (λ t. refl) refl)

  inside_law : (f : List ℕ) → Law (either (a word.Star) (as_value (all_call f) (one (a word.Star))) (as_value (call_value f) (arguments r.expression))) begins_inside true after_inside
  inside_law f =
      wide (alt (a word.Star) (valued (all_call f) (token (a word.Star) (sample word.Star) refl)) (λ t h. h)
      (valued (call_value f) (alt begins_expression lists_law (λ t h. h) (empty ([], 0)) (λ t h. refl))) (apart _ _ (λ t. refl) refl))
      (within _ _ (λ t. refl) refl) (within _ _ (λ t. refl) refl)

  call_law : (f : List ℕ) → Law (call_of r.expression f) (a word.OpenParenthesis) false none
  call_law f =
      wide (after_token (a word.OpenParenthesis) (sample word.OpenParenthesis) refl (before_token (a word.CloseParenthesis) (sample word.CloseParenthesis) refl (inside_law f) (apart _ _ (λ t. refl) refl)))
      (λ t h. h) (within _ _ (λ t. refl) refl)

  nested_law : Law (nested r) begins_nested false after_unary
  nested_law =
      wide (alt (a word.Minus) (valued (under negated) (after_token (a word.Minus) (sample word.Minus) refl l.unary)) (λ t h. h)
      (valued deeper (after_token (a word.OpenParenthesis) (sample word.OpenParenthesis) refl
      (before_token (a word.CloseParenthesis) (sample word.CloseParenthesis) refl l.expression (apart _ _ (λ t. refl) refl)))) (apart _ _ (λ t. refl) refl))
      (λ t h. h) (within _ _ (λ t. refl) refl)

  in_or_between_law : (b : Bool) (x : Deep) → Law (in_or_between r b x) (λ t. a word.In t || a word.Between t) false after_sum
  in_or_between_law b x =
      wide (alt (a word.In) (valued (in_value b x) (after_token (a word.In) (sample word.In) refl (after_token (a word.OpenParenthesis) (sample word.OpenParenthesis) refl
      (before_token (a word.CloseParenthesis) (sample word.CloseParenthesis) refl lists_law (apart _ _ (λ t. refl) refl))))) (λ t h. h)
      (valued (between_value b x) (after_token (a word.Between) (sample word.Between) refl
      (seq l.sum (after_token (a word.And) (sample word.And) refl l.sum) (apart _ _ (λ t. refl) refl)))) (apart _ _ (λ t. refl) refl))
      (λ t h. h) (within _ _ (λ t. refl) refl)

  tested_law : (x : Deep) → Law (tested r x) begins_test false after_sum
  tested_law x =
      wide (alt (a word.Not) (after_token (a word.Not) (sample word.Not) refl (in_or_between_law true x)) (λ t h. h) (in_or_between_law false x) (apart _ _ (λ t. refl) refl))
      (λ t h. h) (within _ _ (λ t. refl) refl)

  compared_law : (x : Deep) → Law (compared r x) is_comparison false after_test
  compared_law x =
      wide (valued (compared_value x) (seq (token is_comparison (sample word.Equal) refl) l.test (λ t h. refl)))
      (within _ _ (λ t. refl) refl) (within _ _ (λ t. refl) refl)

  inverted_law : Law (inverted_by r) (a word.Not) false after_negation
  inverted_law = valued (under inverted) (after_token (a word.Not) (sample word.Not) refl l.negation)

-- chains
module _ {first : Rule Token Deep} {right : Rule Token Deep} {f : Class Token} {f' : Class Token} {c : Class Token} (sign : Class Token) (t : Token) (e : sign t ≡ true) (room : Room) (l : Law first f false c) (l' : Law right f' false c) (d : Disjoint sign c) where
  pub chain_law : Law (chain sign room first right) f false (with c sign)
  chain_law = wide (chained_by sign t e (has_room room) itself join l (λ _. l') d) (λ k h. or_false (f k) h) (λ k h. h)

  parts_law : Law (parts sign room first right) f false (with c sign)
  parts_law = wide (chained_by sign t e (parts_room room) only_part add_part l (λ _. l') d) (λ k h. or_false (f k) h) (λ k h. h)

pub conjunction_law : {first : Rule Token Deep} {right : Rule Token Deep} (room : Room) → Law first begins_expression false after_negation → Law right begins_expression false after_negation → Law (conjunction room first right) begins_expression false after_conjunction
conjunction_law room l l' = valued all_value (parts_law (a word.And) (sample word.And) refl room l l' (apart _ _ (λ t. refl) refl))

pub disjunction_law : {first : Rule Token Deep} {right : Rule Token Deep} (room : Room) → Law first begins_expression false after_conjunction → Law right begins_expression false after_conjunction → Law (disjunction room first right) begins_expression false after_expression
disjunction_law room l l' = valued any_value (parts_law (a word.Or) (sample word.Or) refl room l l' (apart _ _ (λ t. refl) refl))

pub product_law : {first : Rule Token Deep} {right : Rule Token Deep} (room : Room) → Law first begins_unary false after_unary → Law right begins_unary false after_unary → Law (chain is_product room first right) begins_unary false after_product
product_law room l l' = chain_law is_product (sample word.Star) refl room l l' (apart _ _ (λ t. refl) refl)

pub sum_law : {first : Rule Token Deep} {right : Rule Token Deep} (room : Room) → Law first begins_unary false after_product → Law right begins_unary false after_product → Law (chain is_sum room first right) begins_unary false after_sum
sum_law room l l' = chain_law is_sum (sample word.Plus) refl room l l' (apart _ _ (λ t. refl) refl)

null_or_not_law : Law null_or_not (λ t. a word.Not t || a word.Null t) false none
null_or_not_law =
    wide (alt (a word.Not) (valued (said true) (after_token (a word.Not) (sample word.Not) refl (token (a word.Null) (sample word.Null) refl))) (λ t h. h)
    (valued (said false) (token (a word.Null) (sample word.Null) refl)) (apart _ _ (λ t. refl) refl))
    (λ t h. h) (within _ _ (λ t. refl) refl)

pub nullity_law : {p : Rule Token Deep} (room : Room) → Law p begins_unary false after_comparison → Law (nullity room p) begins_unary false after_negation
nullity_law room l =
    wide (chained_by (a word.Is) (sample word.Is) refl (has_room room) itself null_join l (λ _. wide null_or_not_law (λ t h. h) (λ t h. cc)) (apart _ _ (λ t. refl) refl))
    (λ k h. or_false (begins_unary k) h) (λ k h. h)

-- levels that stand over one more operator, call or pair of parentheses only where there is room
module _ (text : List ℕ) (room : Room) (any : Rules) (s : Sample any) (r : Rules) (laws : (d : ℕ) → room d ≡ true → Laws (within_any any r)) where
  abbrev below : Rules
  below = within_any any r

  behind_name_law : (x : TokenKind × List ℕ) → Law (behind_name text room any below x) after_unary true after_unary
  behind_name_law x =
      wide (if_room_law (a word.OpenParenthesis) (call_of any.expression x.1).texts (call_of below.expression x.1) (as_value flat (column text x)) behind_column true none behind_column
      (call_opens any s x.1) (λ ts d w. w) (λ ts d w. w) (valued flat (column_law text x)) (apart _ _ (λ t. refl) refl) (room 0) (λ h. call_law below (laws 0 h) x.1))
      (λ t h. h) (within _ _ (λ t. refl) refl)

  named_leaf_law : Law (named_leaf text room any below) a_name false after_unary
  named_leaf_law =
      wide (valued second_of (then_by (name_law text) behind_name_law (λ t h. refl))) (within _ _ (λ t. refl) refl) (within _ _ (λ t. refl) refl)

  leaf_law : Law (either a_name (named_leaf text room any below) (as_value flat (literal text))) begins_leaf false after_unary
  leaf_law = wide (alt a_name named_leaf_law (λ t h. h) (valued flat (literal_law text)) (apart _ _ (λ t. refl) refl)) (λ t h. h) (within _ _ (λ t. refl) refl)

  pub unary_law : Law (unary text room any below) begins_unary false after_unary
  unary_law =
      wide (if_room_law begins_nested (nested any).texts (nested below) (either a_name (named_leaf text room any below) (as_value flat (literal text))) begins_leaf false after_unary after_unary
      (nested_opens any s) (λ ts d w. w) (λ ts d w. w) leaf_law (apart _ _ (λ t. refl) refl) (room 0) (λ h. nested_law below (laws 0 h)))
      (λ t h. h) (within _ _ (λ t. refl) refl)

  maybe_tested_law : (x : Deep) → Law (maybe_tested room any below x) begins_test true after_test
  maybe_tested_law x =
      wide (if_room_law begins_test (tested any x).texts (tested below x) (nothing x) none true after_sum none
      (tested_opens any s x) (λ ts d w. w) (λ ts d w. w) (empty x) (λ t h. refl) (room x.1) (λ h. tested_law below (laws x.1 h) x))
      (within _ _ (λ t. refl) refl) (within _ _ (λ t. refl) refl)

  pub test_law : {p : Rule Token Deep} → Law p begins_unary false after_sum → Law (test room any below p) begins_unary false after_test
  test_law l = wide (valued second_of (then_by l maybe_tested_law (apart _ _ (λ t. refl) refl))) (within _ _ (λ t. refl) refl) (within _ _ (λ t. refl) refl)

  maybe_compared_law : (x : Deep) → Law (maybe_compared room any below x) is_comparison true after_comparison
  maybe_compared_law x =
      wide (if_room_law is_comparison (compared any x).texts (compared below x) (nothing x) none true after_test none
      (compared_opens any s x) (λ ts d w. w) (λ ts d w. w) (empty x) (λ t h. refl) (room x.1) (λ h. compared_law below (laws x.1 h) x))
      (within _ _ (λ t. refl) refl) (within _ _ (λ t. refl) refl)

  pub comparison_law : {p : Rule Token Deep} → Law p begins_unary false after_test → Law (comparison room any below p) begins_unary false after_comparison
  comparison_law l = wide (valued second_of (then_by l maybe_compared_law (apart _ _ (λ t. refl) refl))) (within _ _ (λ t. refl) refl) (within _ _ (λ t. refl) refl)

  pub negation_law : {p : Rule Token Deep} → Law p begins_unary false after_negation → Law (negation room any below p) begins_expression false after_negation
  negation_law {p = p} l =
      wide (if_room_law (a word.Not) (inverted_by any).texts (inverted_by below) p begins_unary false after_negation after_negation
      (inverted_opens any s) (λ ts d w. w) (λ ts d w. w) l (apart _ _ (λ t. refl) refl) (room 0) (λ h. inverted_law below (laws 0 h)))
      (λ t h. h) (within _ _ (λ t. refl) refl)
