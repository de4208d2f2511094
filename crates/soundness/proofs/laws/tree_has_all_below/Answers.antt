use Rattle.soundness.proofs.Leaves.{tree_has_all_below}
use Rattle.soundness.proofs.laws.tree_has_all_below.Goals as goal

pub returns : goal.returns
returns c = tree_has_all_below
