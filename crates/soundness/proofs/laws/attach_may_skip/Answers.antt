use Rattle.soundness.proofs.All.{attach_may_skip}
use Rattle.soundness.proofs.laws.attach_may_skip.Goals as goal

pub returns : goal.returns
returns c = attach_may_skip
