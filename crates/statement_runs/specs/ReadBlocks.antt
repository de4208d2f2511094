-- What is read of a block, said by the grammar alone (VI. SQL Commands): no reader is named.
use Rattle.std.specs.Prelude.{◌≡◌, ℕ, List, Some, Result, Ok, Err}
use Rattle.grammar.specs.Parses.{IsOnly}
use Rattle.pg_values.specs.declared.fault.Fault.{Fault}
use Rattle.sql_ast.specs.Statements.{StatementTree}
use Rattle.sql_expressions.specs.Parsed.{IsRefused}
use Rattle.sql_expressions.specs.declared.refused.ParseRefused.{ParseRefused}
use Rattle.sql_syntax.specs.Block.{passed}
use Rattle.sql_syntax.specs.Grammar.{block}
use Rattle.sql_tokens.specs.Tokens.{tokens_of}
use Rattle.statement_runs.specs.Faults.{fault}

-- The text is a block of these statements and of no others, even without the limits. Or it is refused at a token: up to it
-- the text begins a block, and with it none; the fault tells that token, or the limit that it passes.
abbrev pub IsReadAs : List ℕ → Result (List StatementTree) Fault → Type 0
IsReadAs text (Ok statements) = IsOnly (block text).texts (block text).free (tokens_of text) statements
IsReadAs text (Err f) = (refused : ParseRefused) × IsRefused passed block text refused × (fault refused ≡ Some f)
