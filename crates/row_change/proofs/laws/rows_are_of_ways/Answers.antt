use Rattle.row_change.proofs.Made.{rows_are_of_ways}
use Rattle.row_change.proofs.laws.rows_are_of_ways.Goals as goal

pub returns : goal.returns
returns c = rows_are_of_ways
