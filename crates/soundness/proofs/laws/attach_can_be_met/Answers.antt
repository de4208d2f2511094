use Rattle.soundness.proofs.AttachExample.{attach_can_be_met}
use Rattle.soundness.proofs.laws.attach_can_be_met.Goals as goal

pub returns : goal.returns
returns c = attach_can_be_met
