use Rattle.stores.proofs.Meanwhile.{looks_keep_numbers}
use Rattle.stores.proofs.laws.looks_keep_numbers.Goals as goal

pub returns : goal.returns
returns c = looks_keep_numbers
