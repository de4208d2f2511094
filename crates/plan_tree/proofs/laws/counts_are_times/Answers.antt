use Rattle.plan_tree.proofs.Times.{are_times}
use Rattle.plan_tree.proofs.laws.counts_are_times.Goals as goal

pub returns : goal.returns
returns c = are_times
