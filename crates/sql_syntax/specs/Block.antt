-- A block of statements, the limit that one passes, and where a text stops to begin one.
use Rattle.std.specs.Prelude.{ℕ, ◌-◌, Bool, ◌&&◌, ◌||◌, if◌then◌else◌, ◌==◌, List, length, drop}
use Rattle.grammar.specs.Parses.{FailsAt}
use Rattle.grammar.specs.Reading.{begins_in}
use Rattle.pg_values.specs.declared.which.Which.{Which}
use Rattle.pg_values.specs.declared.which.Which.TheVariants as which
use Rattle.sql_tokens.specs.Classes.{a}
use Rattle.sql_tokens.specs.Tokens.{tokens_of}
use Rattle.sql_tokens.specs.declared.kind.TokenKind.TheVariants as word
use Rattle.sql_tokens.specs.declared.token.Token.{Token}
use Rattle.sql_expressions.specs.Parsed as parsed
use Rattle.sql_syntax.specs.Grammar.{begins_statement, block}
use Rattle.sql_ast.specs.Statements.{StatementTree}

-- the text is a block of these statements, within the limits
abbrev pub IsBlock : List ℕ → List StatementTree → Type 0
IsBlock text statements = (block text).texts (tokens_of text) statements

-- without the limits
abbrev pub IsFreeBlock : List ℕ → List StatementTree → Type 0
IsFreeBlock text statements = (block text).free (tokens_of text) statements

-- at this token a statement begins: with its first word, at the front of the block or directly behind a semicolon
abbrev pub statement_begins : List Token → ℕ → Bool
statement_begins tokens at = begins_in begins_statement (drop at tokens) && (at == 0 || begins_in (a word.Semicolon) (drop (at - 1) tokens))

-- the limit that is passed at the token from which on `left` tokens are left: where a statement begins, that on statements
abbrev pub passed : List ℕ → List Token → ℕ → Which
passed text tokens left = if statement_begins tokens (length tokens - left) then which.Statements else parsed.passed text tokens left

-- Up to some token the text begins a block, and with it none within the limits.
abbrev pub Stops : List ℕ → Type 0
Stops text = (left : ℕ) × FailsAt (block text).texts (block text).texts (tokens_of text) left
