use Rattle.row_change.proofs.Leading.{ways_lead}
use Rattle.row_change.proofs.Targets.{routed_have_ways}
use Rattle.row_change.proofs.laws.ways_lead_to_leaves.Goals as goal

pub returns-clause-some : goal.returns-clause-some
returns-clause-some c = routed_have_ways

pub returns-clause-same : goal.returns-clause-same
returns-clause-same c = ways_lead
