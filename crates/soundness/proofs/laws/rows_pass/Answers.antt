use Rattle.soundness.proofs.CheckPath.{rows_pass}
use Rattle.soundness.proofs.laws.rows_pass.Goals as goal

pub returns : goal.returns
returns c = rows_pass
