use Rattle.legal_statements.proofs.Stays.{trees_stay}
use Rattle.legal_statements.proofs.laws.trees_stay.Goals as goal

pub returns : goal.returns
returns c = trees_stay
