-- What stands behind a word is read in one step, or in two.
use Rattle.std.proofs.Common.{◌≡◌, List, Ok, Err, Result, refl, sym, subst}
use Rattle.grammar.specs.Gives.{Gives}
use Rattle.grammar.specs.declared.refused.Refused.{Refused}
use Rattle.grammar.specs.Reading.{Reading, Rule, given, read_one, as_value, follow, ◌>>=◌}
use Rattle.grammar.specs.Repeats.{second_of}
use Rattle.sql_tokens.specs.declared.kind.TokenKind.{TokenKind}
use Rattle.sql_tokens.specs.declared.token.Token.{Token}
use Rattle.grammar.specs.Words.{◌>>◌}
use Rattle.sql_tokens.specs.Classes.{a}

module _ {A B C : Type 0} (g : B → C) (k : TokenKind) (p : Rule Token A) (q : A → Rule Token B) where
  abbrev all_with : Token → (A × B) × List Token → Reading Token (Token × (A × B))
  all_with t y = given (t, y.0) y.1

  abbrev last_with : Token → B × List Token → Reading Token (Token × B)
  last_with t y = given (t, y.0) y.1

  abbrev all_behind : (Token × (A × B)) × List Token → Reading Token (A × B)
  all_behind y = given y.0.1 y.1

  abbrev last_behind : (Token × B) × List Token → Reading Token B
  last_behind y = given y.0.1 y.1

  abbrev last_only : (A × B) × List Token → Reading Token B
  last_only y = given (second_of y.0) y.1

  abbrev valued_all : (A × B) × List Token → Reading Token C
  valued_all y = given (g y.0.1) y.1

  abbrev valued_last : B × List Token → Reading Token C
  valued_last y = given (g y.0) y.1

  behind : (t : Token) (r : Reading Token (A × B)) → (((r >>= all_with t) >>= all_behind) >>= valued_all) ≡ ((((r >>= last_only) >>= last_with t) >>= last_behind) >>= valued_last)
  behind t (Ok y) = refl
  behind t (Err e) = refl

  from : (w : Reading Token Token) →
      (((w >>= λ t. (follow p q).read t.1 >>= all_with t.0) >>= all_behind) >>= valued_all)
      ≡ (((w >>= λ t. (as_value second_of (follow p q)).read t.1 >>= last_with t.0) >>= last_behind) >>= valued_last)
  from (Ok t) = behind t.0 ((follow p q).read t.1)
  from (Err e) = refl

  pub in_steps : {X : Type 0} (view : X → C × List Token) (r : Result X Refused) (ts : List Token) → Gives view r ((as_value g (a k >> as_value second_of (follow p q))).read ts) → Gives view r ((as_value (λ (x : A × B). g x.1) (a k >> follow p q)).read ts)
  in_steps view r ts h = subst (Gives view r) (sym (from (read_one (a k) ts))) h
