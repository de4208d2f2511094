use Rattle.plan_tree.proofs.Small.{trees_prunable}
use Rattle.plan_tree.proofs.laws.trees_can_be_pruned.Goals as goal

pub returns : goal.returns
returns c = trees_prunable
