use Rattle.soundness.proofs.Paths.{path_accepts}
use Rattle.soundness.proofs.laws.path_accepts.Goals as goal

pub returns : goal.returns
returns c = path_accepts
