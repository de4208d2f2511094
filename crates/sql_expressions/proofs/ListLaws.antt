-- Each rule keeps the law: one token of look-ahead decides how its texts are read.
use Rattle.std.proofs.Common.{◌≡◌, ℕ, Bool, true, false, ◌&&◌, not, List, refl}
use Rattle.grammar.specs.Reading.{Class, Rule}
use Rattle.grammar.proofs.Laws.{Law, Disjoint}
use Rattle.grammar.proofs.Chain.{none, with}
use Rattle.grammar.proofs.Build.{token, valued}
use Rattle.grammar.proofs.WordLaws.{between_law, separated_law}
use Rattle.sql_tokens.specs.Contents.{name_in, number_in}
use Rattle.sql_tokens.specs.declared.kind.TokenKind.{TokenKind}
use Rattle.sql_tokens.specs.declared.kind.TokenKind.TheVariants as word
use Rattle.sql_tokens.specs.declared.token.Token.{Token}
use Rattle.sql_tokens.specs.Classes.{a, a_name}
use Rattle.sql_expressions.specs.Words.{is_long_name}
use Rattle.sql_expressions.proofs.WordLaws.{sample, no_longer_law, name_law}
use Rattle.sql_expressions.specs.Lists as lists

pub in_law : {A : Type 0} {p : Rule Token A} {f : Class Token} {c : Class Token} → Law p f false c → Disjoint (a word.CloseParenthesis) c → Law (lists.in_parentheses p) (a word.OpenParenthesis) false none
in_law l d = between_law (a word.OpenParenthesis) (sample word.OpenParenthesis) refl (a word.CloseParenthesis) (sample word.CloseParenthesis) refl l d

pub commas_law : {A : Type 0} {p : Rule Token A} {f : Class Token} {c : Class Token} → Law p f false c → Disjoint (a word.Comma) c → Law (lists.commas p) f false (with c (a word.Comma))
commas_law l d = separated_law (a word.Comma) (sample word.Comma) refl l d

pub plain_name_law : (text : List ℕ) → Law (lists.plain_name text) a_name false none
plain_name_law text = valued lists.said (name_law text)

pub number_law : (text : List ℕ) → Law (lists.number text) (a word.Number) false none
number_law text = valued (number_in text) (token (a word.Number) (sample word.Number) refl)

first_true : (u v : Bool) → (u && v) ≡ true → u ≡ true
first_true true v h = refl
first_true false v h = cc

pub name_but_law : (text : List ℕ) (k : TokenKind) → (a_name (sample word.Name) && not (is_long_name text (sample word.Name) && not (a k (sample word.Name)))) ≡ true → Law (lists.name_but text k) a_name false none
name_but_law text k e =
    valued (name_in text) (no_longer_law a_name (lists.is_long_but text k) (λ t h. first_true (a_name t) _ (first_true (is_long_name text t) _ h)) (sample word.Name) e)

both_true : (u v w : Bool) → ((u && v) && w) ≡ true → (u && w) ≡ true
both_true true true w h = h
both_true true false w h = cc
both_true false v w h = cc

pub other_name_law : (text : List ℕ) (k : TokenKind) → (lists.is_other_name k (sample word.Name) && not (is_long_name text (sample word.Name) && not (a k (sample word.Name)))) ≡ true → Law (lists.other_name text k) (lists.is_other_name k) false none
other_name_law text k e = valued (name_in text) (no_longer_law (lists.is_other_name k) (λ t. is_long_name text t && not (a k t)) (λ t h. both_true (a_name t) _ _ h) (sample word.Name) e)
