use Rattle.soundness.proofs.Waiting.{waiting_accept}
use Rattle.soundness.proofs.laws.waiting_accept.Goals as goal

pub returns : goal.returns
returns c = waiting_accept
