-- Rules of one token or a few: words and signs, names, and expressions without operands (4.1 Lexical Structure; 4.2.1 Column References).
-- What a name or a number says stands in the text, so rules of names take the text.
use Rattle.std.specs.Prelude.{ℕ, Bool, true, false, ◌&&◌, ◌||◌, not, if◌then◌else◌, nat_lt, List, length}
use Rattle.grammar.specs.Reading.{Class, Rule, one, one_texts, nothing, follow, as_value, either, barred}
use Rattle.grammar.specs.Repeats.{second_of}
use Rattle.grammar.specs.Words.{◌>>◌}
use Rattle.sql_tokens.specs.Classes.{a, a_name}
use Rattle.sql_tokens.specs.Contents.{name_in, number_in, string_in}
use Rattle.sql_tokens.specs.Words as words
use Rattle.sql_tokens.specs.declared.kind.TokenKind.{TokenKind}
use Rattle.sql_tokens.specs.declared.kind.TokenKind.TheVariants as word
use Rattle.sql_tokens.specs.declared.token.Token.{Token}
use Rattle.sql_ast.specs.declared.leaf.Leaf.{Leaf}
use Rattle.sql_ast.specs.declared.leaf.Leaf.TheVariants as leaf
use Rattle.sql_expressions.specs.declared.words.TheConstants.{MOST_NAME_BYTES, MOST_TEXT_BYTES}

-- a token whose name or string is too long
abbrev pub is_long_name : List ℕ → Class Token
is_long_name text t = a_name t && nat_lt MOST_NAME_BYTES (length (name_in text t))

abbrev pub is_long_text : List ℕ → Class Token
is_long_text text t = a word.Text t && nat_lt MOST_TEXT_BYTES (length (string_in text t))

-- one token of the class c; those that are also of the class `long` only without limits
abbrev pub no_longer : Class Token → Class Token → Rule Token Token
no_longer c long = barred long (one_texts long) (one (λ t. c t && not (long t)))

-- name, with its kind
abbrev pub named : List ℕ → Token → TokenKind × List ℕ
named text t = (t.kind, name_in text t)

abbrev pub name : List ℕ → Rule Token (TokenKind × List ℕ)
name text = as_value (named text) (no_longer a_name (is_long_name text))

-- string
abbrev pub string : List ℕ → Rule Token (List ℕ)
string text = as_value (string_in text) (no_longer (a word.Text) (is_long_text text))

-- number | string | NULL | TRUE | FALSE | parameter
abbrev pub a_literal : Class Token
a_literal t = a word.Number t || (a word.Text t || (a word.Null t || (a word.True t || (a word.False t || a word.Parameter t))))

abbrev pub literal_of : List ℕ → Token → Leaf
literal_of text t =
    if a word.Number t then leaf.Number (number_in text t)
    else (if a word.Text t then leaf.Text (string_in text t)
    else (if a word.Null t then leaf.Null
    else (if a word.True t then leaf.Truth true
    else (if a word.False t then leaf.Truth false
    else leaf.Parameter (number_in text t)))))

abbrev pub literal : List ℕ → Rule Token Leaf
literal text = as_value (literal_of text) (no_longer a_literal (is_long_text text))

-- p where a token of c comes, if that is said, else q
abbrev pub either_if : {A : Type 0} → Bool → Class Token → Rule Token A → Rule Token A → Rule Token A
either_if true c p q = either c p q
either_if false c p q = q

-- "::" "REGCLASS"
abbrev pub past_cast : Rule Token Token
past_cast = a word.TypeCast >> one (a word.Regclass)

abbrev pub cast : Leaf → Rule Token Leaf
cast l = as_value (λ (t : Token). l) past_cast

-- behind "table" ".": the name of a column; behind TABLEOID a cast makes it the name of the row's table
abbrev pub column_of : List ℕ → TokenKind × List ℕ → Rule Token Leaf
column_of table x = either_if (words.is x.0 word.Tableoid) (a word.TypeCast) (cast (leaf.TableNameOf table)) (nothing (leaf.ColumnOf table x.1))

abbrev pub dotted : List ℕ → List ℕ → Rule Token Leaf
dotted text table = a word.Dot >> as_value second_of (follow (name text) (column_of table))

-- behind a name that is no function: "." name, a string behind DATE, a cast behind TABLEOID, or nothing
abbrev pub column : List ℕ → TokenKind × List ℕ → Rule Token Leaf
column text x =
    either (a word.Dot) (dotted text x.1)
    (either_if (words.is x.0 word.Date) (a word.Text) (as_value leaf.Date (string text))
    (either_if (words.is x.0 word.Tableoid) (a word.TypeCast) (cast leaf.TableName) (nothing (leaf.Column x.1))))
