use Rattle.plan_tree.proofs.Missed.{none_missed}
use Rattle.plan_tree.proofs.laws.none_is_missed.Goals as goal

pub returns : goal.returns
returns c = none_missed
