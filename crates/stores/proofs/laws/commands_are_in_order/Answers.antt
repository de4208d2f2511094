use Rattle.stores.proofs.Commands.{commands_are_in_order}
use Rattle.stores.proofs.laws.commands_are_in_order.Goals as goal

pub returns : goal.returns
returns c = commands_are_in_order
