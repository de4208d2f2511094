use Rattle.history.proofs.Views.{committed_stays_seen}
use Rattle.history.proofs.laws.committed_stays_seen.Goals as goal

pub returns : goal.returns
returns c = committed_stays_seen
