use Rattle.sql_written.proofs.GivesBlocks.{no_fewer}
use Rattle.sql_written.proofs.block_laws.blocks_have_no_fewer_parentheses.Goals as goal

pub returns : goal.returns
returns c tree text tokens w h = no_fewer text tree tokens w h
