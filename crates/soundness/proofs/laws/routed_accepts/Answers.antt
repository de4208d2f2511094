use Rattle.soundness.proofs.Routes.{routed_accepts}
use Rattle.soundness.proofs.laws.routed_accepts.Goals as goal

pub returns : goal.returns
returns c = routed_accepts
