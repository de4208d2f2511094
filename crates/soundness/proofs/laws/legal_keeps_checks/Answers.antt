use Rattle.soundness.proofs.All.{legal_keeps_checks}
use Rattle.soundness.proofs.laws.legal_keeps_checks.Goals as goal

pub returns : goal.returns
returns c = legal_keeps_checks
