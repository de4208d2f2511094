use Rattle.row_change.proofs.Fit.{paths_fit, rows_can_be_placed}
use Rattle.row_change.proofs.laws.rows_fit_paths.Goals as goal

pub returns-clause-path : goal.returns-clause-path
returns-clause-path c = paths_fit

pub returns-clause-placed : goal.returns-clause-placed
returns-clause-placed c = rows_can_be_placed
