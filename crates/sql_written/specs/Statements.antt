-- What is written of each statement.
use Rattle.std.specs.Prelude.{ℕ, List}
use Rattle.sql_ast.specs.Statements.{StatementTree, commands, queries}
use Rattle.sql_written.specs.Marks.{Mark, text_of}
use Rattle.sql_written.specs.Commands.{command_marks}
use Rattle.sql_written.specs.Queries.{query_marks}

abbrev pub statement_marks : StatementTree → List Mark
statement_marks (commands c) = command_marks c
statement_marks (queries q) = query_marks q

-- the text
abbrev pub written : StatementTree → List ℕ
written t = text_of (statement_marks t)
