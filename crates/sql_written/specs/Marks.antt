-- What is written: words, signs and constants, each of a kind, and the blanks between them (4.1 Lexical Structure).
use Rattle.std.specs.Prelude.{ℕ, List, [], ◌∷◌, ◌++◌}
use Rattle.sql_tokens.specs.declared.kind.TokenKind.{TokenKind}

-- a word, a sign or a constant by its kind and its bytes; or a blank
pub data Mark : Type 0 where
  blank : Mark
  mark : TokenKind → List ℕ → Mark

abbrev pub bytes_of : Mark → List ℕ
bytes_of blank = 32 ∷ []
bytes_of (mark k z) = z

-- one behind the other
abbrev pub text_of : List Mark → List ℕ
text_of [] = []
text_of (m ∷ ms) = bytes_of m ++ text_of ms
