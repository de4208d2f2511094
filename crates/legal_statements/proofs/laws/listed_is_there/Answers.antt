use Rattle.legal_statements.proofs.There.{listed_is_there}
use Rattle.legal_statements.proofs.laws.listed_is_there.Goals as goal

pub returns : goal.returns
returns c = listed_is_there
