-- What a parser of a text of SQL promises: the one value of the text, or the refusal at the first token that does not fit.
use Rattle.std.specs.Prelude.{◌≡◌, ℕ, if◌then◌else◌, List, length, Option, Some, None, Result, Ok, Err}
use Rattle.grammar.specs.Parses.{IsOnly, FailsAt, GoesOn}
use Rattle.grammar.specs.Reading.{Rule}
use Rattle.grammar.specs.declared.refused.Refused.{Refused}
use Rattle.grammar.specs.declared.refused.Refused.TheVariants as refused
use Rattle.grammar.specs.Places.{token_at}
use Rattle.pg_values.specs.declared.which.Which.{Which}
use Rattle.pg_values.specs.declared.which.Which.TheVariants as which
use Rattle.sql_tokens.specs.Contents.{called}
use Rattle.sql_tokens.specs.Tokens.{tokens_of}
use Rattle.sql_tokens.specs.Words.{is_left_out}
use Rattle.sql_tokens.specs.declared.token.Token.{Token}
use Rattle.sql_expressions.specs.declared.refused.ParseRefused.{ParseRefused}
use Rattle.sql_expressions.specs.declared.refused.ParseRefused.TheVariants.{NoMemory, Syntax, Left, TooMany}
use Rattle.sql_expressions.specs.Words.{is_long_name, is_long_text}

-- A token with which the text begins no text of the grammar: it goes by its name where it is left out by name, else by
-- its first byte, or the text's length where the text ends too soon.
abbrev pub misfit : List ℕ → Option Token → ParseRefused
misfit text None = Syntax (length text)
misfit text (Some t) = if is_left_out t.kind then Left (called text t) else Syntax t.start

-- the limit that a token passes
abbrev pub limit_at : List ℕ → Option Token → Which
limit_at text None = which.NestedExpressions
limit_at text (Some t) =
    if is_long_name text t then which.BytesOfAName
    else (if is_long_text text t then which.BytesOfAText else which.NestedExpressions)

-- the same where so many tokens are left
abbrev pub passed : List ℕ → List Token → ℕ → Which
passed text tokens left = limit_at text (token_at tokens left)

-- How a grammar says which limit is passed where so many tokens of a text are left.
abbrev pub LimitOf : Type 0
LimitOf = List ℕ → List Token → ℕ → Which

-- a refusal by how many tokens are left
abbrev pub refusal_of : LimitOf → List ℕ → List Token → Refused → ParseRefused
refusal_of limit text tokens refused.NoMemory = NoMemory
refusal_of limit text tokens (refused.Syntax left) = misfit text (token_at tokens left)
refusal_of limit text tokens (refused.Limit left) = TooMany (limit text tokens left)

-- Up to a token the text begins a text of the rule. With it, it begins none; or it begins one without limits, and none
-- within them.
abbrev pub IsRefused : {A : Type 0} → LimitOf → (List ℕ → Rule Token A) → List ℕ → ParseRefused → Type 0
IsRefused limit rule text NoMemory = Unit {0}
IsRefused limit rule text (TooMany w) =
    (left : ℕ) × FailsAt (rule text).texts (rule text).texts (tokens_of text) left × GoesOn (rule text).free (tokens_of text) left × (w ≡ limit text (tokens_of text) left)
IsRefused limit rule text (Syntax at) =
    (left : ℕ) × FailsAt (rule text).texts (rule text).free (tokens_of text) left × (Syntax at ≡ misfit text (token_at (tokens_of text) left))
IsRefused limit rule text (Left word) =
    (left : ℕ) × FailsAt (rule text).texts (rule text).free (tokens_of text) left × (Left word ≡ misfit text (token_at (tokens_of text) left))

-- the text is one of the value answered, and of no other; or it is refused
abbrev pub ParsesText : {X A : Type 0} → LimitOf → (List ℕ → Rule Token A) → (X → A) → List ℕ → Result X ParseRefused → Type 0
ParsesText limit rule view text (Ok x) = IsOnly (rule text).texts (rule text).free (tokens_of text) (view x)
ParsesText limit rule view text (Err e) = IsRefused limit rule text e
