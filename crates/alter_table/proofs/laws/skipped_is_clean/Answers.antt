use Rattle.alter_table.proofs.LeftOut.{skipped_is_clean}
use Rattle.alter_table.proofs.laws.skipped_is_clean.Goals as goal

pub returns : goal.returns
returns c = skipped_is_clean
