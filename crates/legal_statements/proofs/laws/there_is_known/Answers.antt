use Rattle.legal_statements.proofs.Known.{there_is_known}
use Rattle.legal_statements.proofs.laws.there_is_known.Goals as goal

pub returns : goal.returns
returns c = there_is_known
