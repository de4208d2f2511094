-- How the code sees what it reads.
use Rattle.std.specs.Prelude.{ℕ, List, Option}
use Rattle.grammar.specs.declared.refused.Refused.{Refused}
use Rattle.grammar.specs.declared.refused.Refused.TheVariants as refused
use Rattle.grammar.specs.Reading.{Rule, Stop, syntax_at, limit_at, as_value, follow}
use Rattle.grammar.specs.Repeats.{second_of}
use Rattle.sql_tokens.specs.declared.kind.TokenKind.TheVariants as word
use Rattle.sql_tokens.specs.declared.token.Token.{Token}
use Rattle.sql_expressions.specs.Grammar.{expression}
use Rattle.sql_ast.specs.Expressions.{tree}
use Rattle.grammar.specs.Words.{◌>>◌}
use Rattle.sql_tokens.specs.Classes.{a}
use Rattle.sql_syntax.specs.QueryGrammar.{more_settings, unaliased}
use Rattle.sql_ast.specs.Queries.{Output as OutputTree, Setting}
use Rattle.sql_syntax.specs.declared.items.OutputColumn.{OutputColumn}

abbrev pub stop_of : Refused → Stop
stop_of refused.NoMemory = syntax_at 0
stop_of (refused.Syntax n) = syntax_at n
stop_of (refused.Limit n) = limit_at n

abbrev pub output_tree : OutputColumn → OutputTree
output_tree x = (tree x.value, x.alias)

-- behind SET SET and "=", read in two steps
abbrev pub value_and_more : List ℕ → Token → Rule Token (List Setting)
value_and_more text t = as_value second_of (follow (expression text) (more_settings text t))

abbrev pub column_in_steps : List ℕ → Token → Rule Token (Option (List ℕ) × List Setting)
column_in_steps text t = as_value unaliased (a word.Equal >> value_and_more text t)
