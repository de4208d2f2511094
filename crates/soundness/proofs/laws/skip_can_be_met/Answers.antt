use Rattle.soundness.proofs.CheckExample.{skip_can_be_met}
use Rattle.soundness.proofs.laws.skip_can_be_met.Goals as goal

pub returns : goal.returns
returns c = skip_can_be_met
