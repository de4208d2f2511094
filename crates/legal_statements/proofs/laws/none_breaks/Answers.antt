use Rattle.legal_statements.proofs.Judging.{none_breaks}
use Rattle.legal_statements.proofs.laws.none_breaks.Goals as goal

pub returns : goal.returns
returns c = none_breaks
