use Rattle.soundness.proofs.OneLeaf.{sessions_have_siblings}
use Rattle.soundness.proofs.laws.sessions_have_siblings.Goals as goal

pub returns : goal.returns
returns c = sessions_have_siblings
