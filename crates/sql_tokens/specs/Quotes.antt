-- Strings and quoted names (4.1.2.1 String Constants, 4.1.1 Identifiers and Key Words).
use Rattle.std.specs.Prelude.{ℕ, false, if◌then◌else◌, ◌==◌, List, Option, Some, None, drop}
pub use Rattle.grammar.specs.TextPlaces.{inside, slice}
pub use Rattle.grammar.specs.Quotes.{closing, kept, undoubled}
use Rattle.sql_tokens.specs.declared.kind.TokenKind.TheVariants.{Text, QuotedName}
use Rattle.sql_tokens.specs.declared.piece.Piece.{Piece}
use Rattle.sql_tokens.specs.declared.piece.Piece.TheVariants.{Lexeme, Broken}

abbrev pub closed_string : Option ℕ → Piece
closed_string None = Broken
closed_string (Some end) = Lexeme Text end

-- a name of no bytes is none
abbrev pub closed_name : Option ℕ → Piece
closed_name None = Broken
closed_name (Some end) = if end == 2 then Broken else Lexeme QuotedName end

unfoldable pub string : List ℕ → Piece
string z = closed_string (closing 39 false 1 (drop 1 z))

unfoldable pub quoted_name : List ℕ → Piece
quoted_name z = closed_name (closing 34 false 1 (drop 1 z))
