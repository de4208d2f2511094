use Rattle.select_statement.proofs.Joins.{are_read, are_scanned, joins_read}
use Rattle.select_statement.proofs.explaining.joins_read_their_scans.Goals as goal

pub returns-clause-scans : goal.returns-clause-scans
returns-clause-scans c = joins_read

pub returns-clause-printed : goal.returns-clause-printed
returns-clause-printed c = are_scanned

pub returns-clause-reached : goal.returns-clause-reached
returns-clause-reached c = are_read
