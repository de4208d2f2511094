-- The readers of one depth, by those of the depth below.
use Rattle.std.proofs.Common.{◌≡◌, ℕ, suc, ◌<◌, Bool, true, List, length, refl, sym, subst, arith, Ok, Err}
use Rattle.grammar.specs.Reading.{Class, Reading, Rule, given, ◌>>=◌, begins_in}
use Rattle.grammar.specs.Gives.{Gives}
use Rattle.grammar.specs.Repeats.{second_of, chain_by, read_repeats}
use Rattle.grammar.specs.declared.refused.Refused.{Refused}
use Rattle.grammar.proofs.WholeLaws.{gives_by}
use Rattle.std.specs.Prelude.{Result}
use Rattle.sql_tokens.specs.declared.kind.TokenKind.{TokenKind}
use Rattle.sql_tokens.specs.declared.kind.TokenKind.TheVariants as word
use Rattle.sql_tokens.specs.declared.token.Token.{Token}
use Rattle.sql_expressions.specs.Grammar.{any, below, freed, nullity_at, rules, under_depth}
use Rattle.sql_expressions.specs.Levels.{Deep, Room, Rules, begins_nested, begins_test, is_comparison, nested, call_of, maybe_tested, tested, maybe_compared, compared, inverted_by, unary, named_leaf, negation}
use Rattle.sql_expressions.specs.Views as views
use Rattle.sql_expressions.specs.Views.{at, named_at, operand_level, operand_of, part_level, part_of}
use Rattle.sql_tokens.specs.Classes.{a}
use Rattle.sql_expressions.specs.Words.{name}
use Rattle.sql_expressions.specs.declared.signs.Joint.{Joint}
use Rattle.sql_expressions.specs.declared.signs.Chain.{Chain}
use Rattle.sql_expressions.specs.declared.signs.Level.{Level}

-- the second of two values that are read one after another
pub second_read : {A B : Type 0} (x : A) (r : Reading Token B) → ((r >>= λ y. given (x, y.0) y.1) >>= λ (z : (A × B) × List Token). given (second_of z.0) z.1) ≡ r
second_read x (Ok y) = refl
second_read x (Err e) = refl

-- where there is room
module _ (room : Room) (everything lower : Rules) (ts : List Token) where
  unary_with_room : (text : List ℕ) → begins_in begins_nested ts ≡ true → room 0 ≡ true → (unary text room everything lower).read ts ≡ (nested lower).read ts
  unary_with_room text b l = rw (b, l) refl

  named_with_room : (text : List ℕ) (x : TokenKind × List ℕ) (rest : List Token) → (name text).read ts ≡ Ok (x, rest) → begins_in (a word.OpenParenthesis) rest ≡ true → room 0 ≡ true →
      (named_leaf text room everything lower).read ts ≡ (call_of lower.expression x.1).read rest
  named_with_room text x rest e b l = rw (e, b, l) (second_read x ((call_of lower.expression x.1).read rest))

  tested_with_room : (x : Deep) → begins_in begins_test ts ≡ true → room x.1 ≡ true → (maybe_tested room everything lower x).read ts ≡ (tested lower x).read ts
  tested_with_room x b l = rw (b, l) refl

  compared_with_room : (x : Deep) → begins_in is_comparison ts ≡ true → room x.1 ≡ true → (maybe_compared room everything lower x).read ts ≡ (compared lower x).read ts
  compared_with_room x b l = rw (b, l) refl

  negation_with_room : (nullity : Rule Token Deep) → begins_in (a word.Not) ts ≡ true → room 0 ≡ true → (negation room everything lower nullity).read ts ≡ (inverted_by lower).read ts
  negation_with_room nullity b l = rw (b, l) refl

is_below : (d n : ℕ) → d < n → below n d ≡ true
is_below d n h = grind (arith, h)

module _ (text : List ℕ) (n m : ℕ) (h : n ≡ suc m) (ts : List Token) where
  abbrev lower : Rules
  lower = freed text (under_depth text (suc m))

  pub unary_deeper : begins_in begins_nested ts ≡ true → (rules text n).unary.read ts ≡ (nested (rules text m)).read ts
  unfolding under_depth
  unary_deeper b = subst (λ k. (rules text k).unary.read ts ≡ (nested (rules text m)).read ts) (sym h) (unary_with_room (below (suc m)) (any text) lower ts text b (is_below 0 (suc m) (omega arith)))

  pub named_deeper : (x : TokenKind × List ℕ) (rest : List Token) → (name text).read ts ≡ Ok (x, rest) → begins_in (a word.OpenParenthesis) rest ≡ true → (named_at text n).read ts ≡ (call_of (rules text m).expression x.1).read rest
  unfolding under_depth
  named_deeper x rest e b = subst (λ k. (named_at text k).read ts ≡ (call_of (rules text m).expression x.1).read rest) (sym h) (named_with_room (below (suc m)) (any text) lower ts text x rest e b (is_below 0 (suc m) (omega arith)))

  pub operand_deeper : (chain : Chain) (level : Level) → level ≡ operand_level chain → (operand_of chain (under_depth text n)).read ts ≡ (at level (rules text m)).read ts
  unfolding under_depth
  operand_deeper chain level e = subst (λ k. (operand_of chain (under_depth text k)).read ts ≡ (at level (rules text m)).read ts) (sym h) (rw e refl)

  pub tested_deeper : (x : Deep) → begins_in begins_test ts ≡ true → x.1 < n → (views.maybe_tested text n x).read ts ≡ (tested (rules text m) x).read ts
  unfolding under_depth
  tested_deeper x b l =
      subst (λ k. x.1 < k → (views.maybe_tested text k x).read ts ≡ (tested (rules text m) x).read ts) (sym h)
      (λ l. tested_with_room (below (suc m)) (any text) lower ts x b (is_below x.1 (suc m) l)) l

  pub compared_deeper : (x : Deep) → begins_in is_comparison ts ≡ true → x.1 < n → (views.maybe_compared text n x).read ts ≡ (compared (rules text m) x).read ts
  unfolding under_depth
  compared_deeper x b l =
      subst (λ k. x.1 < k → (views.maybe_compared text k x).read ts ≡ (compared (rules text m) x).read ts) (sym h)
      (λ l. compared_with_room (below (suc m)) (any text) lower ts x b (is_below x.1 (suc m) l)) l

  pub negation_deeper : begins_in (a word.Not) ts ≡ true → (rules text n).negation.read ts ≡ (inverted_by (rules text m)).read ts
  unfolding under_depth
  negation_deeper b =
      subst (λ k. (rules text k).negation.read ts ≡ (inverted_by (rules text m)).read ts) (sym h)
      (negation_with_room (below (suc m)) (any text) lower ts (nullity_at text (suc m) (under_depth text (suc m))) b (is_below 0 (suc m) (omega arith)))

  pub part_deeper : (joint : Joint) (level : Level) → level ≡ part_level joint → (part_of joint (under_depth text n)).read ts ≡ (at level (rules text m)).read ts
  unfolding under_depth
  part_deeper joint level e = subst (λ k. (part_of joint (under_depth text k)).read ts ≡ (at level (rules text m)).read ts) (sym h) (rw e refl)

-- a chain, behind its first part
pub chain_gives : {X A B C : Type 0} (view : X → A × List Token) (r : Result X Refused) (sign : Class Token) (guard : A → Bool) (first : C → A) (join : A → Token → B → A) (q : Rule Token C) (p : A → Rule Token B)
    (ts : List Token) (x : C) (rest : List Token) (l : A) → q.read ts ≡ Ok (x, rest) → l ≡ first x → Gives view r (read_repeats sign guard join (λ a. (p a).read) (length rest) l rest) → Gives view r ((chain_by sign guard first join q p).read ts)
chain_gives view r sign guard first join q p ts x rest l e f g = gives_by view r _ (read_repeats sign guard join (λ a. (p a).read) (length rest) l rest) (rw (e, f) refl) g
