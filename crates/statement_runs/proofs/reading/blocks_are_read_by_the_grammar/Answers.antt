use Rattle.std.proofs.Common.{true, List, Result, Ok, Err, sym}
use Rattle.pg_values.specs.declared.fault.Fault.{Fault}
use Rattle.sql_ast.specs.Statements.{StatementTree}
use Rattle.sql_syntax.specs.Block.{passed}
use Rattle.sql_syntax.specs.Grammar.{block}
use Rattle.sql_syntax.proofs.StatementLaws.{after_block, begins_block, block_law}
use Rattle.statement_runs.specs.ReadBlocks.{IsReadAs}
use Rattle.statement_runs.specs.Reading.{read_block}
use Rattle.statement_runs.proofs.TextReadings.{MatchRead, whole_read, refusal_read, read_is}
use Rattle.statement_runs.proofs.reading.blocks_are_read_by_the_grammar.Goals as goal

pub returns-clause-said : goal.returns-clause-said
returns-clause-said c text = told (read_block text) (read_is passed block text begins_block true after_block (block_law text))
  where
    told : (read : Result (List StatementTree) Fault) → MatchRead passed block text begins_block true after_block (block_law text) read → IsReadAs text read
    told (Ok xs) is = is
    told (Err f) is = is

pub returns-clause-one : goal.returns-clause-one
returns-clause-one c text (Ok xs) is = sym (whole_read passed block text begins_block true after_block (block_law text) xs is)
returns-clause-one c text (Err f) is = sym (refusal_read passed block text begins_block true after_block (block_law text) is.0 f is.1 is.2)
