use Rattle.soundness.proofs.Example.{conditions_can_be_met}
use Rattle.soundness.proofs.laws.conditions_can_be_met.Goals as goal

pub returns : goal.returns
returns c = conditions_can_be_met
