use Rattle.stores.proofs.Commands.{goes_on}
use Rattle.stores.proofs.laws.goes_on.Goals as goal

pub returns : goal.returns
returns c = goes_on
