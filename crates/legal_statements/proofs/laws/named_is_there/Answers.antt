use Rattle.legal_statements.proofs.There.{named_is_there}
use Rattle.legal_statements.proofs.laws.named_is_there.Goals as goal

pub returns : goal.returns
returns c = named_is_there
