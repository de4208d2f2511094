use Rattle.soundness.proofs.OneLeaf.{one_leaf_accepts}
use Rattle.soundness.proofs.laws.one_leaf_accepts.Goals as goal

pub returns : goal.returns
returns c = one_leaf_accepts
