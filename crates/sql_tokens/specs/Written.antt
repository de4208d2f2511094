-- Texts as they are written between quotes (4.1.2.1 String Constants, 4.1.1 Identifiers and Key Words).
use Rattle.std.specs.Prelude.{◌≡◌, ℕ, List, [], ◌∷◌, length}
pub use Rattle.grammar.specs.Quotes.{doubled, quoted}
use Rattle.sql_tokens.specs.declared.kind.TokenKind.{TokenKind}
use Rattle.sql_tokens.specs.declared.token.Token.{Token}
use Rattle.sql_tokens.specs.Tokens.{tokens_of}

-- the token of a whole text
abbrev pub whole : TokenKind → List ℕ → Token
whole k text = record { kind = k; start = 0; end = length text }

-- the text is one token of the kind, and what it says are the bytes
pub record IsToken (k : TokenKind) (text : List ℕ) (say : List ℕ → Token → List ℕ) (bytes : List ℕ) : Type 0 where
  pub one : tokens_of text ≡ whole k text ∷ []
  pub says : say text (whole k text) ≡ bytes
