use Rattle.lock_table.proofs.Readiness.{oldest_ready}
use Rattle.lock_table.proofs.laws.ready_has_no_cause.Goals as goal

pub returns : goal.returns
returns c = oldest_ready
