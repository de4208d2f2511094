use Rattle.soundness.proofs.Columns.{legal_keeps_columns}
use Rattle.soundness.proofs.laws.legal_keeps_columns.Goals as goal

pub returns : goal.returns
returns c = legal_keeps_columns
