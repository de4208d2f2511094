use Rattle.sql_written.proofs.GivesBlocks.{parsed_are_writable}
use Rattle.sql_written.proofs.block_laws.blocks_can_be_written.Goals as goal

pub returns : goal.returns
returns c text trees h = parsed_are_writable text trees h
