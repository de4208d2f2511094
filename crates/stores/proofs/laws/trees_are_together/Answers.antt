use Rattle.stores.proofs.Standing.{trees_are_together}
use Rattle.stores.proofs.laws.trees_are_together.Goals as goal

pub returns : goal.returns
returns c = trees_are_together
