use Rattle.stores.proofs.Commands.{begins_at_zero}
use Rattle.stores.proofs.laws.begins_at_zero.Goals as goal

pub returns : goal.returns
returns c = begins_at_zero
