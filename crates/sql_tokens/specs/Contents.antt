-- What a token says (4.1.1 Identifiers and Key Words, 4.1.2 Constants). A place behind the text's end stands for the end.
use Rattle.std.specs.Prelude.{ℕ, false, if◌then◌else◌, List, map}
use Rattle.std.specs.Char.{to_ascii_lowercase, to_ascii_uppercase}
use Rattle.sql_tokens.specs.declared.kind.TokenKind.TheVariants.{Decimal, QuotedName}
use Rattle.sql_tokens.specs.declared.token.Token.{Token}
use Rattle.sql_tokens.specs.Numbers.{number_of_digits}
use Rattle.sql_tokens.specs.Quotes.{inside, slice, undoubled}
use Rattle.sql_tokens.specs.Words.{is}

-- the bytes of a token
abbrev pub bytes_of : List ℕ → Token → List ℕ
bytes_of text token = slice text token.start token.end

-- a name in lower case, or what stands between the quotes of a quoted one
abbrev pub name_in : List ℕ → Token → List ℕ
name_in text token = if is token.kind QuotedName then undoubled 34 false (inside (bytes_of text token)) else map to_ascii_lowercase (bytes_of text token)

-- the number that the digits write, or 2^63 for every number from there on
abbrev pub number_in : List ℕ → Token → ℕ
number_in text token = number_of_digits (bytes_of text token)

-- what stands between the quotes of a string
abbrev pub string_in : List ℕ → Token → List ℕ
string_in text token = undoubled 39 false (inside (bytes_of text token))

-- what a token is called where it is left out by name: a word in capitals, a number as it is written
abbrev pub called : List ℕ → Token → List ℕ
called text token = if is token.kind Decimal then bytes_of text token else map to_ascii_uppercase (bytes_of text token)
