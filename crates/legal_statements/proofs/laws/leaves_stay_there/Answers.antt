use Rattle.legal_statements.proofs.Making.{leaves_stay_there}
use Rattle.legal_statements.proofs.laws.leaves_stay_there.Goals as goal

pub returns : goal.returns
returns c = leaves_stay_there
