use Rattle.legal_statements.proofs.Finding.{nothing_is_found}
use Rattle.legal_statements.proofs.laws.nothing_is_found.Goals as goal

pub returns : goal.returns
returns c = nothing_is_found
