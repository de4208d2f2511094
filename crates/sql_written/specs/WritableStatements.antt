-- The statements that a parse can give.
use Rattle.sql_ast.specs.Statements.{StatementTree, commands, queries}
use Rattle.sql_written.specs.WritableCommands.{IsCommand}
use Rattle.sql_written.specs.WritableQueries.{IsQuery}

-- statements
abbrev pub IsWritable : StatementTree → Type 0
IsWritable (commands c) = IsCommand c
IsWritable (queries q) = IsQuery q
