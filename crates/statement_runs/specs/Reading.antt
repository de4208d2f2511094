-- The statements of a block as a function of its text (VI. SQL Commands).
use Rattle.std.specs.Prelude.{ℕ, List, length, Option, Some, None, Result, Ok, Err, if◌then◌else◌}
use Rattle.grammar.specs.Reading.{Rule, Stop, syntax_at, limit_at, read_whole}
use Rattle.grammar.specs.Places.{token_at}
use Rattle.pg_values.specs.declared.fault.Fault.{Fault}
use Rattle.refusals.specs.Refusals.{syntax_error, left_out, too_many}
use Rattle.sql_tokens.specs.Contents.{called}
use Rattle.sql_tokens.specs.Tokens.{tokens_of}
use Rattle.sql_tokens.specs.Words.{is_left_out}
use Rattle.sql_tokens.specs.declared.token.Token.{Token}
use Rattle.sql_expressions.specs.Parsed.{LimitOf}
use Rattle.sql_syntax.specs.Block.{passed}
use Rattle.sql_syntax.specs.Grammar.{block}
use Rattle.sql_ast.specs.Statements.{StatementTree}

-- A token that fits in no text goes by its name where it is left out by name, else by where it is, or the text's end.
abbrev pub misfit : List ℕ → Option Token → Fault
misfit text None = syntax_error (length text)
misfit text (Some t) = if is_left_out t.kind then left_out (called text t) else syntax_error t.start

-- the fault where a reader stopped
abbrev pub fault_at : LimitOf → List ℕ → List Token → Stop → Fault
fault_at limit text tokens (syntax_at left) = misfit text (token_at tokens left)
fault_at limit text tokens (limit_at left) = too_many (limit text tokens left)

-- what was read, or the fault
abbrev pub or_fault : {A : Type 0} → LimitOf → List ℕ → Result A Stop → Result A Fault
or_fault limit text (Ok a) = Ok a
or_fault limit text (Err stop) = Err (fault_at limit text (tokens_of text) stop)

-- what the whole text is a text of by the rule, else the fault at the first token that does not fit
abbrev pub read_text : {A : Type 0} → LimitOf → (List ℕ → Rule Token A) → List ℕ → Result A Fault
read_text limit rule text = or_fault limit text (read_whole (rule text) (tokens_of text))

-- the statements of a block
abbrev pub read_block : List ℕ → Result (List StatementTree) Fault
read_block text = read_text passed block text
