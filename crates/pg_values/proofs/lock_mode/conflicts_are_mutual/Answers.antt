use Rattle.pg_values.proofs.Modes.{both_ways}
use Rattle.pg_values.proofs.lock_mode.conflicts_are_mutual.Goals as goal

pub returns : goal.returns
returns c = both_ways
