-- Signs (4.1.3 Operators, 4.1.4 Special Characters), by their first two bytes, the longest first. `-` and `/` may begin a comment and stand there.
use Rattle.std.specs.Prelude.{◌≡◌, ℕ, ◌<◌, ◌≤◌, false, ◌&&◌, if◌then◌else◌, ◌==◌}
use Rattle.sql_tokens.specs.declared.kind.TokenKind.TheVariants.{OpenParenthesis, CloseParenthesis, Comma, Semicolon, Dot, Equal, NotEqual, Less, LessEqual, Greater, GreaterEqual, Plus, Star, Percent, TypeCast, Fault}
use Rattle.sql_tokens.specs.declared.piece.Piece.{Piece}
use Rattle.sql_tokens.specs.declared.piece.Piece.TheVariants.{Gap, Lexeme, Broken}
use Rattle.sql_tokens.specs.Words.{is}

-- one byte long, or two where there is a second
abbrev pub IsShort : ℕ → Piece → Type 0
IsShort next (Gap n) = ⊥
IsShort next (Lexeme k n) = (0 < n) × (n ≤ 2) × (next ≡ 0 → n ≡ 1) × (is k Fault ≡ false)
IsShort next Broken = Unit {0}

abbrev pub less : ℕ → Piece
less next = if next == 61 then Lexeme LessEqual 2 else (if next == 62 then Lexeme NotEqual 2 else Lexeme Less 1)

abbrev pub greater : ℕ → Piece
greater next = if next == 61 then Lexeme GreaterEqual 2 else Lexeme Greater 1

abbrev pub single : ℕ → Piece
single b =
    if b == 40 then Lexeme OpenParenthesis 1 else (if b == 41 then Lexeme CloseParenthesis 1
    else (if b == 44 then Lexeme Comma 1 else (if b == 59 then Lexeme Semicolon 1
    else (if b == 46 then Lexeme Dot 1 else (if b == 61 then Lexeme Equal 1
    else (if b == 43 then Lexeme Plus 1 else (if b == 42 then Lexeme Star 1
    else (if b == 37 then Lexeme Percent 1 else Broken))))))))

-- `!` and `:` alone begin no token
unfoldable pub sign : ℕ → ℕ → Piece
sign b next =
    if b == 60 then less next else (if b == 62 then greater next
    else (if b == 33 && next == 61 then Lexeme NotEqual 2
    else (if b == 58 && next == 58 then Lexeme TypeCast 2 else single b)))
