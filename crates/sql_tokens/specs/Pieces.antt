-- What stands at the front of a text (4.1 Lexical Structure): the longest piece that its bytes make.
use Rattle.std.specs.Prelude.{◌≡◌, ℕ, ◌<◌, ◌≤◌, Bool, false, if◌then◌else◌, ◌==◌, List, length, take, slice_index}
use Rattle.std.specs.Str.{is_utf8}
use Rattle.sql_tokens.specs.declared.bytes.Class.TheVariants as class
use Rattle.sql_tokens.specs.declared.kind.TokenKind.TheVariants.{Fault}
use Rattle.sql_tokens.specs.declared.piece.Piece.{Piece}
use Rattle.sql_tokens.specs.declared.piece.Piece.TheVariants.{Gap, Lexeme, Broken}
use Rattle.sql_tokens.specs.Bytes.{belongs, past}
use Rattle.sql_tokens.specs.Comments.{minus, slash}
use Rattle.sql_tokens.specs.Numbers.{begins_number, number, parameter}
use Rattle.sql_tokens.specs.Quotes.{string, quoted_name}
use Rattle.sql_tokens.specs.Signs.{sign}
use Rattle.sql_tokens.specs.Words.{is, word_kind}

abbrev pub length_of : Piece → ℕ
length_of (Gap n) = n
length_of (Lexeme k n) = n
length_of Broken = 0

-- it takes some bytes of the text and no more than there are, and its kind is that of a token
abbrev pub IsWithin : List ℕ → Piece → Type 0
IsWithin z (Gap n) = (0 < n) × (n ≤ length z)
IsWithin z (Lexeme k n) = (0 < n) × (n ≤ length z) × (is k Fault ≡ false)
IsWithin z Broken = Unit {0}

abbrev pub begins_name : List ℕ → Bool
begins_name z = belongs class.NameStart (slice_index z 0)

-- a name or a word
abbrev pub name : List ℕ → Piece
name z = Lexeme (word_kind (take (past class.NamePart z 0) z)) (past class.NamePart z 0)

-- what begins with no letter, digit or blank
unfoldable pub mark : List ℕ → Piece
mark z =
    let b = slice_index z 0 in
    if b == 45 then minus z else (if b == 47 then slash z
    else (if b == 39 then string z else (if b == 34 then quoted_name z else (if b == 36 then parameter z
    else sign b (slice_index z 1)))))

-- by its first byte; a number may begin with a point
unfoldable pub front : List ℕ → Piece
front z =
    if belongs class.Blank (slice_index z 0) then Gap (past class.Blank z 0)
    else (if begins_name z then name z
    else (if begins_number z then number z else mark z))

-- bytes that are no UTF-8 make no piece
unfoldable pub next_piece : List ℕ → Piece
next_piece z = if is_utf8 (take (length_of (front z)) z) then front z else Broken
