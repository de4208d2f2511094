use Rattle.sql_syntax.proofs.BlockLaws.{stops}
use Rattle.sql_syntax.proofs.parse.refused_blocks_stop_there.Goals as goal

pub returns : goal.returns
returns c text refused h = stops text refused h
