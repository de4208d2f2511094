use Rattle.stores.proofs.Meanwhile.{others_keep_numbers}
use Rattle.stores.proofs.laws.others_keep_numbers.Goals as goal

pub returns : goal.returns
returns c = others_keep_numbers
