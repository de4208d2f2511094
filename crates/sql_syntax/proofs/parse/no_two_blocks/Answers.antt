use Rattle.grammar.proofs.WholeLaws.{one_value}
use Rattle.sql_tokens.specs.Tokens.{tokens_of}
use Rattle.sql_syntax.proofs.StatementLaws.{block_law}
use Rattle.sql_syntax.proofs.parse.no_two_blocks.Goals as goal

pub returns : goal.returns
returns c text xs ys w v = one_value (block_law text) (tokens_of text) xs ys w v
