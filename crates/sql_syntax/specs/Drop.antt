-- DROP TABLE (VI. SQL Commands).
use Rattle.std.specs.Prelude.{ℕ, Bool, true, false, List, [], ◌∷◌, Option}
use Rattle.grammar.specs.Reading.{Class, Rule, one, nothing, follow, as_value, either}
use Rattle.grammar.specs.Repeats.{second_of}
use Rattle.sql_tokens.specs.Words as words
use Rattle.sql_tokens.specs.declared.kind.TokenKind.{TokenKind}
use Rattle.sql_tokens.specs.declared.kind.TokenKind.TheVariants as word
use Rattle.sql_tokens.specs.declared.token.Token.{Token}
use Rattle.grammar.specs.Words.{◌>>◌, ◌&◌, one_of, means, maybe}
use Rattle.sql_tokens.specs.Classes.{a}
use Rattle.sql_expressions.specs.Words.{either_if, name}
use Rattle.sql_expressions.specs.Lists.{commas, more_commas, plain_name, name_word, read_as}
use Rattle.sql_ast.specs.Commands.{CommandTree, drops}

-- drop = "DROP" "TABLE" [ "IF" "EXISTS" ] name { "," name } [ "CASCADE" | "RESTRICT" ]
abbrev pub is_behavior : Class Token
is_behavior = one_of (a word.Cascade) (a word.Restrict)

abbrev pub if_exists : List ℕ → Rule Token Bool
if_exists text = either (a word.If) (means true (name_word text word.If & one (a word.Exists))) (nothing false)

abbrev pub tables : List ℕ → Rule Token (Bool × List (List ℕ))
tables text = if_exists text & commas (plain_name text)

-- IF may be a name, so a name is read first, and EXISTS behind it decides
abbrev pub drop_value : Bool → List (List ℕ) → Bool × List (List ℕ)
drop_value if_there names = (if_there, names)

abbrev pub dropped_behind : List ℕ → TokenKind × List ℕ → Rule Token (Bool × List (List ℕ))
dropped_behind text x =
    either_if (words.is x.0 word.If) (a word.Exists) (as_value (drop_value true) (a word.Exists >> commas (plain_name text)))
    (as_value (drop_value false) (more_commas (plain_name text) (x.1 ∷ [])))

abbrev pub dropped_by_name : List ℕ → Rule Token (Bool × List (List ℕ))
dropped_by_name text = as_value second_of (follow (name text) (dropped_behind text))

abbrev pub dropped : List ℕ → Rule Token (Bool × List (List ℕ))
dropped text = read_as (tables text) (dropped_by_name text)

abbrev pub drop_tree : (Bool × List (List ℕ)) × Option Token → CommandTree
drop_tree x = drops x.0.0 x.0.1

abbrev pub drop_tables : List ℕ → Rule Token CommandTree
drop_tables text = as_value drop_tree (a word.Drop >> a word.Table >> dropped text & maybe is_behavior)
