-- Statements as trees, without where they lie in memory (VI. SQL Commands).
use Rattle.sql_ast.specs.Commands.{CommandTree, command_tree}
use Rattle.sql_ast.specs.Queries.{QueryTree, query_tree}
use Rattle.sql_ast.specs.declared.statement.Statement.{Statement}
use Rattle.sql_ast.specs.declared.statement.Statement.TheVariants as statements

-- a statement of a block
pub data StatementTree : Type 0 where
  commands : CommandTree → StatementTree
  queries : QueryTree → StatementTree

abbrev pub statement_tree : Statement → StatementTree
statement_tree (statements.Command c) = commands (command_tree c)
statement_tree (statements.Query q) = queries (query_tree q)
