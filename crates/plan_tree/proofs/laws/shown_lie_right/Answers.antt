use Rattle.plan_tree.proofs.Right.{shown_right}
use Rattle.plan_tree.proofs.laws.shown_lie_right.Goals as goal

pub returns : goal.returns
returns c = shown_right
