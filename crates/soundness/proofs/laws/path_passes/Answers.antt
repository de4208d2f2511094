use Rattle.soundness.proofs.CheckPath.{path_passes}
use Rattle.soundness.proofs.laws.path_passes.Goals as goal

pub returns : goal.returns
returns c = path_passes
