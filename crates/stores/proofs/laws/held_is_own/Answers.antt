use Rattle.stores.proofs.Goodness.{held_own}
use Rattle.stores.proofs.laws.held_is_own.Goals as goal

pub returns : goal.returns
returns c = held_own
