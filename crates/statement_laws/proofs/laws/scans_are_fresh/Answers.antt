use Rattle.statement_laws.proofs.Fresh.{good_scans}
use Rattle.statement_laws.proofs.laws.scans_are_fresh.Goals as goal

pub returns : goal.returns
returns c = good_scans
