use Rattle.lock_table.proofs.Readiness.{keeps_place}
use Rattle.lock_table.proofs.laws.waiters_keep_their_place.Goals as goal

pub returns : goal.returns
returns c = keeps_place
