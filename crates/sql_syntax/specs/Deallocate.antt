-- DEALLOCATE (VI. SQL Commands).
use Rattle.std.specs.Prelude.{ℕ, Bool, true, false, List, Option, Some, None}
use Rattle.grammar.specs.Reading.{Rule, one, nothing, follow, as_value, either, optional}
use Rattle.grammar.specs.Repeats.{second_of}
use Rattle.sql_tokens.specs.Words as words
use Rattle.sql_tokens.specs.declared.kind.TokenKind.{TokenKind}
use Rattle.sql_tokens.specs.declared.kind.TokenKind.TheVariants as word
use Rattle.sql_tokens.specs.declared.token.Token.{Token}
use Rattle.grammar.specs.Words.{◌>>◌, means}
use Rattle.sql_tokens.specs.Classes.{a}
use Rattle.sql_expressions.specs.Words.{name}
use Rattle.sql_expressions.specs.Lists.{plain_name, name_word, is_other_name, other_name, read_as}
use Rattle.sql_ast.specs.Commands.{CommandTree, deallocates, deallocates_all}

-- dealloc = "DEALLOCATE" [ "PREPARE" ] ( name | "ALL" ), where TRANSACTION is no name behind PREPARE
abbrev pub name_behind : List ℕ → Option Token → Rule Token (List ℕ)
name_behind text None = plain_name text
name_behind text (Some prepare) = other_name text word.Transaction

abbrev pub all_or_name : List ℕ → Option Token → Rule Token CommandTree
all_or_name text o = either (a word.All) (means deallocates_all (one (a word.All))) (as_value deallocates (name_behind text o))

abbrev pub prepared : List ℕ → Rule Token CommandTree
prepared text = as_value second_of (follow (optional (a word.Prepare) (name_word text word.Prepare)) (all_or_name text))

-- PREPARE may be a name, so a name is read first, and what stands behind it decides
abbrev pub behind_prepare : List ℕ → List ℕ → Rule Token CommandTree
behind_prepare text prepare =
    either (a word.All) (means deallocates_all (one (a word.All)))
    (either (is_other_name word.Transaction) (as_value deallocates (other_name text word.Transaction)) (nothing (deallocates prepare)))

abbrev pub behind_if : List ℕ → List ℕ → Bool → Rule Token CommandTree
behind_if text name true = behind_prepare text name
behind_if text name false = nothing (deallocates name)

abbrev pub behind_deallocate : List ℕ → TokenKind × List ℕ → Rule Token CommandTree
behind_deallocate text x = behind_if text x.1 (words.is x.0 word.Prepare)

abbrev pub prepared_by_name : List ℕ → Rule Token CommandTree
prepared_by_name text = either (a word.All) (means deallocates_all (one (a word.All))) (as_value second_of (follow (name text) (behind_deallocate text)))

abbrev pub deallocate : List ℕ → Rule Token CommandTree
deallocate text = a word.Deallocate >> read_as (prepared text) (prepared_by_name text)
