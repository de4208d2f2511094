-- Numbers and parameters (4.1.2.6 Numeric Constants, 4.2.2 Positional Parameters).
use Rattle.std.specs.Prelude.{ℕ, ◌+◌, ◌*◌, ◌-◌, Bool, not, ◌&&◌, ◌||◌, if◌then◌else◌, ◌==◌, nat_lt, List, [], ◌∷◌, take, slice_index, min}
use Rattle.sql_tokens.specs.declared.bytes.Class.TheVariants as class
use Rattle.sql_tokens.specs.declared.kind.TokenKind.{TokenKind}
use Rattle.sql_tokens.specs.declared.kind.TokenKind.TheVariants.{Number, Decimal, Parameter}
use Rattle.sql_tokens.specs.declared.numbers.TheConstants.{MOST_PARAMETER, NO_BIGINT}
use Rattle.sql_tokens.specs.declared.piece.Piece.{Piece}
use Rattle.sql_tokens.specs.declared.piece.Piece.TheVariants.{Lexeme, Broken}
use Rattle.sql_tokens.specs.Bytes.{belongs, past}

abbrev pub is_digit_at : List ℕ → ℕ → Bool
is_digit_at z at = belongs class.Digit (slice_index z at)

-- behind a point and the digits that follow it; two points together are none
abbrev pub past_fraction : List ℕ → ℕ → ℕ
past_fraction z at = if slice_index z at == 46 && not (slice_index z (at + 1) == 46) then past class.Digit z (at + 1) else at

-- behind a `+` or a `-`
abbrev pub past_sign : List ℕ → ℕ → ℕ
past_sign z at = if slice_index z at == 43 || slice_index z at == 45 then at + 1 else at

-- an `e`, a sign or none, and a digit
abbrev pub is_exponent : List ℕ → ℕ → Bool
is_exponent z at = (slice_index z at == 101 || slice_index z at == 69) && is_digit_at z (past_sign z (at + 1))

-- behind an exponent
abbrev pub past_exponent : List ℕ → ℕ → ℕ
past_exponent z at = if is_exponent z at then past class.Digit z (past_sign z (at + 1)) else at

abbrev pub begins_number : List ℕ → Bool
begins_number z = is_digit_at z 0 || (slice_index z 0 == 46 && is_digit_at z 1)

-- a piece of the kind up to `end`, unless a name begins there
abbrev pub apart : TokenKind → List ℕ → ℕ → Piece
apart kind z end = if belongs class.NameStart (slice_index z end) then Broken else Lexeme kind end

-- digits alone, or with a point or an exponent
abbrev pub kind_of : ℕ → ℕ → TokenKind
kind_of whole end = if end == whole then Number else Decimal

unfoldable pub number : List ℕ → Piece
number z =
    let whole = past class.Digit z 0 in
    let end = past_exponent z (past_fraction z whole) in
    apart (kind_of whole end) z end

-- the number of the digits so far, and one byte more; what is no digit is passed over
abbrev pub with_digit : ℕ → ℕ → ℕ
with_digit n b = if belongs class.Digit b then n * 10 + (b - 48) else n

abbrev pub digits_from : ℕ → List ℕ → ℕ
digits_from n [] = n
digits_from n (b ∷ z) = digits_from (with_digit n b) z

-- the number that the digits of some bytes write, or 2^63 for every number from there on
abbrev pub number_of_digits : List ℕ → ℕ
number_of_digits z = min NO_BIGINT (digits_from 0 z)

-- `$` and digits
unfoldable pub parameter : List ℕ → Piece
parameter z =
    let end = past class.Digit z 1 in
    if end == 1 || nat_lt MOST_PARAMETER (number_of_digits (take end z)) then Broken else apart Parameter z end
