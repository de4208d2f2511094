-- How the code sees a statement that may be there.
use Rattle.std.specs.Prelude.{Option, Some, None}
use Rattle.sql_ast.specs.Statements.{StatementTree, statement_tree}
use Rattle.sql_ast.specs.declared.statement.Statement.{Statement}

abbrev pub maybe_tree : Option Statement → Option StatementTree
maybe_tree None = None
maybe_tree (Some x) = Some (statement_tree x)
