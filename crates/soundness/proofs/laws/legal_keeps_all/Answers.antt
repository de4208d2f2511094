use Rattle.soundness.proofs.All.{legal_keeps_all}
use Rattle.soundness.proofs.laws.legal_keeps_all.Goals as goal

pub returns : goal.returns
returns c = legal_keeps_all
