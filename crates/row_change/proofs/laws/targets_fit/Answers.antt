use Rattle.row_change.proofs.Targets.{targets_fit}
use Rattle.row_change.proofs.laws.targets_fit.Goals as goal

pub returns : goal.returns
returns c = targets_fit
