use Rattle.std.specs.Prelude.{map}
use Rattle.sql_ast.specs.Statements.{statement_tree}
use Rattle.sql_written.proofs.BlocksReadBack.{only, parsed}
use Rattle.sql_written.proofs.block_laws.statements_read_back.Goals as goal

pub returns-clause-text : goal.returns-clause-text
returns-clause-text c tree w = only tree w

pub returns-clause-parsed : goal.returns-clause-parsed
returns-clause-parsed c tree result w h = parsed (λ xs. map statement_tree xs) tree w result h
