use Rattle.soundness.proofs.Columns.{rows_are_of_trees}
use Rattle.soundness.proofs.laws.rows_are_of_trees.Goals as goal

pub returns : goal.returns
returns c = rows_are_of_trees
