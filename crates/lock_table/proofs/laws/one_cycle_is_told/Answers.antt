use Rattle.history.specs.Waits.{waits_for}
use Rattle.lock_table.proofs.Lists.{one_least}
use Rattle.lock_table.proofs.laws.one_cycle_is_told.Goals as goal

pub returns : goal.returns
returns c h s a b = one_least (waits_for h) s a b
