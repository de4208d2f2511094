use Rattle.plan_tree.proofs.Small.{trees_ordered}
use Rattle.plan_tree.proofs.laws.trees_stand_in_order.Goals as goal

pub returns : goal.returns
returns c = trees_ordered
