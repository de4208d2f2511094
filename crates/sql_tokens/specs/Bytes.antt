-- Classes of bytes (4.1.1 Identifiers and Key Words, 4.1.2.6 Numeric Constants).
use Rattle.std.specs.Prelude.{ℕ, ◌+◌, Bool, not, ◌&&◌, ◌||◌, ◌==◌, nat_le, List, drop}
use Rattle.std.specs.Char.{is_ascii_digit, is_ascii_alphabetic, is_ascii_alphanumeric}
use Rattle.std.specs.List.{prefix_len}
use Rattle.sql_tokens.specs.declared.bytes.Class.{Class}
use Rattle.sql_tokens.specs.declared.bytes.Class.TheVariants as class

-- bytes of 128 and above stand in characters that are no ASCII
abbrev pub belongs : Class → ℕ → Bool
belongs class.Blank b = b == 32 || (nat_le 9 b && nat_le b 13)
belongs class.Digit b = is_ascii_digit b
belongs class.NameStart b = is_ascii_alphabetic b || b == 95 || nat_le 128 b
belongs class.NamePart b = is_ascii_alphanumeric b || b == 95 || b == 36 || nat_le 128 b
belongs class.Line b = not (b == 10 || b == 13)

-- the first place from `at` on whose byte is not of the class
abbrev pub past : Class → List ℕ → ℕ → ℕ
past c z at = at + prefix_len (belongs c) (drop at z)
