use Rattle.soundness.proofs.Columns.{leaves_have_columns}
use Rattle.soundness.proofs.laws.leaves_have_columns.Goals as goal

pub returns : goal.returns
returns c = leaves_have_columns
