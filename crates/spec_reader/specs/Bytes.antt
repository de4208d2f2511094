-- Classes of bytes, and the blanks at the ends of a text.
use Rattle.std.specs.Prelude.{ℕ, ◌-◌, Bool, ◌&&◌, ◌||◌, not, ◌==◌, nat_le, List, length, take, drop}
use Rattle.std.specs.List.{prefix_len, suffix_len}
use Rattle.spec_reader.specs.declared.bytes.Run.{Run}
use Rattle.spec_reader.specs.declared.bytes.Run.TheVariants as runs

-- a space, a tab, a carriage return or a newline
abbrev pub is_blank : ℕ → Bool
is_blank b = b == 32 || (b == 9 || (b == 13 || b == 10))

abbrev pub is_digit : ℕ → Bool
is_digit b = nat_le 48 b && nat_le b 57

-- a letter, `_`, or a byte of a character that is not ASCII
abbrev pub begins_name : ℕ → Bool
begins_name b = (nat_le 97 b && nat_le b 122) || ((nat_le 65 b && nat_le b 90) || (b == 95 || nat_le 128 b))

-- whether a byte goes on with what runs: blanks, digits, a name, a comment to the end of its line,
-- a block up to its `}`
abbrev pub goes_on : Run → ℕ → Bool
goes_on runs.Blanks b = is_blank b
goes_on runs.Digits b = is_digit b
goes_on runs.Name b = begins_name b || (is_digit b || b == 36)
goes_on runs.Comment b = not (b == 10)
goes_on runs.Block b = not (b == 125)

abbrev pub without_end_blanks : List ℕ → List ℕ
without_end_blanks bytes = take (length bytes - suffix_len is_blank bytes) bytes

-- a text without the blanks at both ends
abbrev pub trimmed : List ℕ → List ℕ
trimmed bytes = without_end_blanks (drop (prefix_len is_blank bytes) bytes)
