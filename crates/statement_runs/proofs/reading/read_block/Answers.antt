use Rattle.std.proofs.Common.{◌≤◌, true, map, subst}
use Rattle.std.proofs.lemmas.List.{length-map}
use Rattle.sql_tokens.specs.Tokens.{tokens_of}
use Rattle.sql_syntax.specs.Block.{passed}
use Rattle.sql_syntax.specs.Grammar.{block}
use Rattle.sql_ast.specs.Statements.{statement_tree}
use Rattle.sql_syntax.specs.declared.parse.TheConstants.{MOST_STATEMENTS}
use Rattle.sql_syntax.proofs.StatementLaws.{after_block, begins_block, block_law}
use Rattle.statement_runs.proofs.Counted.{few}
use Rattle.statement_runs.proofs.TextReadings.{whole_read, refusal_read}
use Rattle.statement_runs.proofs.reading.read_block.Goals as goal

pub returns-in-Ok-clause-is : goal.returns-in-Ok-clause-is
returns-in-Ok-clause-is c =
    let text = c.args.text.now in
    whole_read passed block text begins_block true after_block (block_law text) (map statement_tree c.in-Ok.statements.items) c.in-Ok.ensures

pub returns-in-Ok-clause-few : goal.returns-in-Ok-clause-few
returns-in-Ok-clause-few c =
    let text = c.args.text.now in
    let trees = map statement_tree c.in-Ok.statements.items in
    subst (λ n. n ≤ MOST_STATEMENTS) (length-map c.in-Ok.statements.items statement_tree) (few text (tokens_of text) trees c.in-Ok.ensures.text)

pub returns-in_ok-fault-in-Err-clause-is : goal.returns-in_ok-fault-in-Err-clause-is
returns-in_ok-fault-in-Err-clause-is c =
    let text = c.args.text.now in
    refusal_read passed block text begins_block true after_block (block_law text) c.in-Err.refused c.in_ok-fault-in-Err.field-0 c.in-Err.ensures c.in_ok-fault-in-Err.ensures
