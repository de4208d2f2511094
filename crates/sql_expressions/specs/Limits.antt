-- Expressions within the limits, told by those without them: the levels bar what is too deep or too long, and nothing
-- else (4.1.1 Identifiers and Key Words, 4.2 Value Expressions).
use Rattle.std.specs.Prelude.{◌≡◌, ◌≤◌, ℕ, false, List, All, Contains}
use Rattle.sql_tokens.specs.Tokens.{tokens_of}
use Rattle.sql_tokens.specs.declared.token.Token.{Token}
use Rattle.sql_expressions.specs.Grammar.{deep_expression}
use Rattle.sql_ast.specs.Expressions.{Tree}
use Rattle.sql_expressions.specs.Words.{is_long_name, is_long_text}
use Rattle.sql_expressions.specs.declared.levels.TheConstants.{MOST_DEPTH}

-- neither a name nor a string that is too long
abbrev pub IsShort : List ℕ → Token → Type 0
IsShort text t = (is_long_name text t ≡ false) × (is_long_text text t ≡ false)

-- Each of the tokens is one of the text's. Where one of them is a word that may be a name, as BETWEEN, it is short then:
-- of tokens at will it might lie over any part of the text.
abbrev pub StandIn : List ℕ → List Token → Type 0
StandIn text tokens = All (Contains (tokens_of text)) tokens

-- without limits the tokens are an expression of the tree; it is not too deep, and no token is too long
abbrev pub IsWithin : List ℕ → List Token → Tree → Type 0
IsWithin text tokens tree = (depth : ℕ) × (deep_expression text).free tokens (tree, depth) × (depth ≤ MOST_DEPTH) × All (IsShort text) tokens
