use Rattle.row_router.proofs.OneLeaf.{one_leaf}
use Rattle.row_router.proofs.laws.one_leaf.Goals as goal

pub returns : goal.returns
returns c = one_leaf
