-- How words, signs, names and constants are spelled (4.1.1 Identifiers and Key Words, 4.1.2 Constants).
use Rattle.std.specs.Prelude.{ℕ, Bool, true, false, ◌&&◌, not, if◌then◌else◌, ◌==◌, List, [], ◌∷◌, length, slice_index, codes}
use Rattle.std.specs.Char.{is_ascii_uppercase}
use Rattle.std.specs.Fmt.{decimal}
use Rattle.std.specs.List.{prefix_len}
use Rattle.sql_tokens.specs.Bytes.{belongs}
use Rattle.sql_tokens.specs.Words.{is_name, word_kind}
use Rattle.sql_tokens.specs.Written.{quoted}
use Rattle.sql_tokens.specs.declared.bytes.Class.TheVariants as class
use Rattle.sql_tokens.specs.declared.kind.TokenKind.TheVariants as kinds
use Rattle.sql_ast.specs.declared.leaf.Leaf.{Leaf}
use Rattle.sql_ast.specs.declared.leaf.Leaf.TheVariants.{Number, Text, Date, Null, Truth, Parameter, Column, ColumnOf, TableName, TableNameOf}
use Rattle.sql_ast.specs.declared.leaf.Operator.{Operator}
use Rattle.sql_ast.specs.declared.leaf.Operator.TheVariants as operator
use Rattle.sql_written.specs.Marks.{Mark, blank, mark}

-- a byte with which a name without quotes goes on as it is
abbrev pub is_kept : ℕ → Bool
is_kept b = belongs class.NamePart b && not (is_ascii_uppercase b)

abbrev pub begins_name : List ℕ → Bool
begins_name name = belongs class.NameStart (slice_index name 0)

-- A name needs no quotes if its bytes are those of one, without capitals, and if it is no reserved word.
abbrev pub is_plain : List ℕ → Bool
is_plain name = begins_name name && (prefix_len is_kept name == length name && is_name (word_kind name))

abbrev pub name : List ℕ → Mark
name z = if is_plain z then mark (word_kind z) z else mark kinds.QuotedName (quoted 34 z)

-- constants
abbrev pub number : ℕ → Mark
number n = mark kinds.Number (decimal n)

abbrev pub string : List ℕ → Mark
string z = mark kinds.Text (quoted 39 z)

abbrev pub parameter : ℕ → Mark
parameter n = mark kinds.Parameter (36 ∷ decimal n)

abbrev pub truth : Bool → Mark
truth true = mark kinds.True (codes "TRUE")
truth false = mark kinds.False (codes "FALSE")

-- words in capitals, and signs
abbrev pub and_word : Mark
and_word = mark kinds.And (codes "AND")

abbrev pub or_word : Mark
or_word = mark kinds.Or (codes "OR")

abbrev pub not_word : Mark
not_word = mark kinds.Not (codes "NOT")

abbrev pub in_word : Mark
in_word = mark kinds.In (codes "IN")

abbrev pub between_word : Mark
between_word = mark kinds.Between (codes "BETWEEN")

abbrev pub is_word : Mark
is_word = mark kinds.Is (codes "IS")

abbrev pub null_word : Mark
null_word = mark kinds.Null (codes "NULL")

abbrev pub date_word : Mark
date_word = mark kinds.Date (codes "DATE")

abbrev pub opening : Mark
opening = mark kinds.OpenParenthesis (codes "(")

abbrev pub closing : Mark
closing = mark kinds.CloseParenthesis (codes ")")

abbrev pub comma : Mark
comma = mark kinds.Comma (codes ",")

abbrev pub dot : Mark
dot = mark kinds.Dot (codes ".")

abbrev pub star : Mark
star = mark kinds.Star (codes "*")

abbrev pub minus : Mark
minus = mark kinds.Minus (codes "-")

abbrev pub sign : Operator → Mark
sign operator.Add = mark kinds.Plus (codes "+")
sign operator.Subtract = minus
sign operator.Multiply = star
sign operator.Divide = mark kinds.Slash (codes "/")
sign operator.Remainder = mark kinds.Percent (codes "%")
sign operator.Equal = mark kinds.Equal (codes "=")
sign operator.NotEqual = mark kinds.NotEqual (codes "<>")
sign operator.Less = mark kinds.Less (codes "<")
sign operator.LessEqual = mark kinds.LessEqual (codes "<=")
sign operator.Greater = mark kinds.Greater (codes ">")
sign operator.GreaterEqual = mark kinds.GreaterEqual (codes ">=")

-- the table in which a row lies; the names of the column and of the type go in small letters, as other names do
abbrev pub table_name : List Mark
table_name = mark kinds.Tableoid (codes "tableoid") ∷ mark kinds.TypeCast (codes "::") ∷ mark kinds.Regclass (codes "regclass") ∷ []

abbrev pub leaf_marks : Leaf → List Mark
leaf_marks (Number n) = number n ∷ []
leaf_marks (Text z) = string z ∷ []
leaf_marks (Date z) = date_word ∷ blank ∷ string z ∷ []
leaf_marks Null = null_word ∷ []
leaf_marks (Truth b) = truth b ∷ []
leaf_marks (Parameter n) = parameter n ∷ []
leaf_marks (Column c) = name c ∷ []
leaf_marks (ColumnOf t c) = name t ∷ dot ∷ name c ∷ []
leaf_marks TableName = table_name
leaf_marks (TableNameOf t) = name t ∷ dot ∷ table_name
