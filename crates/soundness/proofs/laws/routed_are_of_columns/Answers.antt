use Rattle.soundness.proofs.Columns.{routed_are_of_columns}
use Rattle.soundness.proofs.laws.routed_are_of_columns.Goals as goal

pub returns : goal.returns
returns c = routed_are_of_columns
