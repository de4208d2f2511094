use Rattle.stores.proofs.Commands.{looks_are_open}
use Rattle.stores.proofs.laws.looks_are_open.Goals as goal

pub returns : goal.returns
returns c = looks_are_open
