-- No text of a tree opens fewer parentheses than what is written of it.
use Rattle.std.proofs.Common.{◌≡◌, ℕ, ◌≤◌, List, ap, ◌∙◌, arith}
use Rattle.sql_tokens.specs.Tokens.{tokens_of}
use Rattle.sql_tokens.specs.declared.token.Token.{Token}
use Rattle.sql_expressions.specs.Grammar.{expression}
use Rattle.sql_ast.specs.Expressions.{Tree}
use Rattle.sql_expressions.proofs.RuleLaws.{expression_law}
use Rattle.sql_written.specs.Parentheses.{opened}
use Rattle.sql_written.specs.Precedence.{disjunction, needs_parentheses}
use Rattle.sql_written.specs.Writable.{HasText}
use Rattle.sql_written.specs.Written.{marks, written}
use Rattle.sql_written.proofs.Costs.{opened_marks, opened_tokens, opens}
use Rattle.sql_written.proofs.Least.{deeper_some}
use Rattle.sql_written.proofs.LeastTexts.{Spelled, least}
use Rattle.sql_written.proofs.ReadsBack.{tokens_are_marks}

pub opened_written : (e : Tree) → HasText e → opened (tokens_of (written e)) ≡ opens e
opened_written e w = opened_tokens (written e) (marks e) (tokens_of (written e)) (tokens_are_marks e w) ∙ opened_marks e

nothing_said : (text : List ℕ) → Spelled text (λ (t : Token). ⊥)
nothing_said text = record { name = λ t r e. absurd r; string = λ t r e. absurd r; parameter = λ t r e. absurd r }

opens_freely : (e : Tree) (text : List ℕ) (ts : List Token) → (expression text).free ts e → opens e ≤ opened ts
opens_freely e text ts h =
    let l = least text (λ (t : Token). ⊥) (nothing_said text) ts h.0 h.1 in
    let same : opens e ≡ opens h.0.0 = ap opens h.2 in
    omega (arith, l.fewest, deeper_some (needs_parentheses disjunction h.0.0) (opens h.0.0), same)

pub opens_least : (e : Tree) (text : List ℕ) (ts : List Token) → (expression text).texts ts e → opens e ≤ opened ts
opens_least e text ts h = opens_freely e text ts ((expression_law text).shape.within ts e h)

pub no_fewer : (e : Tree) → HasText e → (text : List ℕ) (ts : List Token) → (expression text).texts ts e → opened (tokens_of (written e)) ≤ opened ts
no_fewer e w text ts h = omega (arith, opens_least e text ts h, opened_written e w)
