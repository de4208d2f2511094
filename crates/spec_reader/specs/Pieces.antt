-- What stands at the front of a text.
use Rattle.std.specs.Prelude.{ℕ, suc, Bool, ◌==◌, nat_lt, if◌then◌else◌, List, [], ◌∷◌, false, Option, Some, None, length, take, drop}
use Rattle.std.specs.List.{prefix_len}
use Rattle.spec_reader.specs.declared.bytes.Run.TheVariants as runs
use Rattle.spec_reader.specs.declared.kind.ScriptTokenKind.{ScriptTokenKind}
use Rattle.spec_reader.specs.declared.kind.ScriptTokenKind.TheVariants as kinds
use Rattle.spec_reader.specs.declared.piece.Piece.{Piece}
use Rattle.spec_reader.specs.Bytes.{is_blank, is_digit, begins_name, goes_on}
use Rattle.grammar.specs.Quotes.{closing}
use Rattle.spec_reader.specs.Words.{word_kind}

-- blanks or a comment, of so many bytes
abbrev pub gap : ℕ → Piece
gap n = record { kind = None; len = n }

abbrev pub token : ScriptTokenKind → ℕ → Piece
token k n = record { kind = Some k; len = n }

-- what begins no token, of so many bytes: by them it is known that none begins there
abbrev pub fault : ℕ → Piece
fault n = token kinds.Fault n

-- a keyword or a name
abbrev pub name : List ℕ → Piece
name text = let n : ℕ = prefix_len (goes_on runs.Name) text in token (word_kind (take n text)) n

-- a text without a newline
abbrev pub is_one_line : List ℕ → Bool
is_one_line text = prefix_len (goes_on runs.Comment) text == length text

-- a quote up to the end of its line
abbrev pub unclosed : List ℕ → Piece
unclosed text = fault (suc (prefix_len (goes_on runs.Comment) (drop 1 text)))

-- up to the closing quote, where that stands on the line
abbrev pub quoted_to : List ℕ → Option ℕ → Piece
quoted_to text None = unclosed text
quoted_to text (Some n) = if is_one_line (take n text) then token kinds.QuotedName n else unclosed text

abbrev pub quoted_name : List ℕ → Piece
quoted_name text = quoted_to text (closing 34 false 1 (drop 1 text))

-- up to the first `}`; without one, up to the end
abbrev pub block : List ℕ → Piece
block text = let n : ℕ = prefix_len (goes_on runs.Block) text in if nat_lt n (length text) then token kinds.Block (suc n) else fault (length text)

abbrev pub sign : ℕ → Piece
sign b =
    if b == 40 then token kinds.OpenParenthesis 1
    else (if b == 41 then token kinds.CloseParenthesis 1
    else (if b == 44 then token kinds.Comma 1
    else (if b == 42 then token kinds.Star 1
    else fault 1)))

-- by the first byte: a blank, a comment, a name, a number, a quoted name, a block, a sign or a fault
abbrev pub piece_by : ℕ → List ℕ → Piece
piece_by b text =
    if is_blank b then gap 1
    else (if b == 35 then gap (prefix_len (goes_on runs.Comment) text)
    else (if begins_name b then name text
    else (if is_digit b then token kinds.Number (prefix_len (goes_on runs.Digits) text)
    else (if b == 34 then quoted_name text
    else (if b == 123 then block text
    else sign b)))))

abbrev pub piece_of : List ℕ → Piece
piece_of [] = gap 0
piece_of (b ∷ rest) = piece_by b (b ∷ rest)
