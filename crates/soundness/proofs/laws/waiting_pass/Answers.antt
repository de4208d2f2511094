use Rattle.soundness.proofs.CheckWaiting.{waiting_pass}
use Rattle.soundness.proofs.laws.waiting_pass.Goals as goal

pub returns : goal.returns
returns c = waiting_pass
