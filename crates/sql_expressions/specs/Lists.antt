-- Rules that all statements are made of: names, numbers, parentheses, and lists with commas between (4.1 Lexical Structure).
-- What a name or a number says stands in the text, so rules of names take the text.
use Rattle.std.specs.Prelude.{ℕ, ◌&&◌, not, List}
use Rattle.grammar.specs.Reading.{Class, Rule, one, as_value}
use Rattle.grammar.specs.Words.{between, separated, more_separated}
use Rattle.sql_tokens.specs.Classes.{a, a_name}
use Rattle.sql_tokens.specs.Contents.{name_in, number_in}
use Rattle.sql_tokens.specs.declared.kind.TokenKind.{TokenKind}
use Rattle.sql_tokens.specs.declared.kind.TokenKind.TheVariants as word
use Rattle.sql_tokens.specs.declared.token.Token.{Token}
use Rattle.sql_expressions.specs.Words.{is_long_name, no_longer, name}

-- "(" p ")"
abbrev pub in_parentheses : {A : Type 0} → Rule Token A → Rule Token A
in_parentheses p = between (a word.OpenParenthesis) (a word.CloseParenthesis) p

-- p { "," p }
abbrev pub commas : {A : Type 0} → Rule Token A → Rule Token (List A)
commas p = separated (a word.Comma) p

-- { "," p } behind those that stand there
abbrev pub more_commas : {A : Type 0} → Rule Token A → List A → Rule Token (List A)
more_commas p xs = more_separated (a word.Comma) p xs

-- a name alone
abbrev pub said : TokenKind × List ℕ → List ℕ
said x = x.1

abbrev pub plain_name : List ℕ → Rule Token (List ℕ)
plain_name text = as_value said (name text)

-- a name, where the word k is never too long
abbrev pub is_long_but : List ℕ → TokenKind → Class Token
is_long_but text k t = is_long_name text t && not (a k t)

abbrev pub name_but : List ℕ → TokenKind → Rule Token (List ℕ)
name_but text k = as_value (name_in text) (no_longer a_name (is_long_but text k))

-- a name that is not the word k
abbrev pub is_other_name : TokenKind → Class Token
is_other_name k t = a_name t && not (a k t)

abbrev pub other_name : List ℕ → TokenKind → Rule Token (List ℕ)
other_name text k = as_value (name_in text) (no_longer (is_other_name k) (is_long_but text k))

-- the word k, where it may be a name: of tokens at will it is no longer than a name may be
abbrev pub name_word : List ℕ → TokenKind → Rule Token Token
name_word text k = no_longer (a k) (λ t. a k t && is_long_name text t)

abbrev pub number : List ℕ → Rule Token ℕ
number text = as_value (number_in text) (one (a word.Number))

-- the texts of p, read as q reads
abbrev pub read_as : {A : Type 0} → Rule Token A → Rule Token A → Rule Token A
read_as p q = record { texts = p.texts; free = p.free; read = q.read }
