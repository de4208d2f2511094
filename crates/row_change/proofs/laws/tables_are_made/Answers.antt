use Rattle.row_change.proofs.Made.{paths_are_made, trees_are_made}
use Rattle.row_change.proofs.laws.tables_are_made.Goals as goal

pub returns-clause-path : goal.returns-clause-path
returns-clause-path c = paths_are_made

pub returns-clause-tree : goal.returns-clause-tree
returns-clause-tree c = trees_are_made
