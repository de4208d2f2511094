-- What the code finds at a place, from what stands there and what is read before it.
use Rattle.std.proofs.Common.{◌≡◌, ℕ, Bool, true, List, ◌∷◌, take, drop, Result, Err, refl, sym, subst, ◌∙◌}
use Rattle.grammar.specs.Gives.{Refuses}
use Rattle.grammar.specs.Reading.{Reading, Stop, syntax_at, limit_at}
use Rattle.grammar.specs.declared.refused.Refused.{Refused}
use Rattle.grammar.specs.declared.refused.Refused.TheVariants as refused
use Rattle.sql_tokens.specs.declared.kind.TokenKind.TheVariants as word
use Rattle.sql_tokens.specs.declared.token.Token.{Token}
use Rattle.sql_expressions.specs.Grammar.{expression}
use Rattle.sql_ast.specs.Expressions.{Tree}
use Rattle.sql_tokens.specs.Classes.{a}
use Rattle.sql_syntax.specs.Items.{ended, ended_at}

found_there : (text : List ℕ) (n : ℕ) (ts : List Token) (t : Token) (rest : List Token) (r : Reading Token Tree) → drop n ts ≡ t ∷ rest → a word.Between t ≡ true → (expression text).read (take n ts) ≡ r → ended_at text n ts ≡ ended t rest r
found_there text n ts t rest r d b e = rw (d, b, e) refl

pub found : (text : List ℕ) (n : ℕ) (ts front back : List Token) (t : Token) (rest : List Token) (b : Bool) (r : Reading Token Tree) → front ≡ take n ts → back ≡ drop n ts → back ≡ t ∷ rest → b ≡ a word.Between t → b ≡ true → (expression text).read front ≡ r → ended_at text n ts ≡ ended t rest r
found text n ts front back t rest b r f g h i j e = found_there text n ts t rest r (sym g ∙ h) (sym i ∙ j) (rw (sym f) e)

-- a refusal by its form
pub syntax_stop : {Y : Type 0} (e : Refused) (n : ℕ) (r : Result Y Stop) → e ≡ refused.Syntax n → Refuses e r → r ≡ Err (syntax_at n)
syntax_stop e n r h k = subst (λ z. Refuses z r) h k

pub limit_stop : {Y : Type 0} (e : Refused) (n : ℕ) (r : Result Y Stop) → e ≡ refused.Limit n → Refuses e r → r ≡ Err (limit_at n)
limit_stop e n r h k = subst (λ z. Refuses z r) h k
