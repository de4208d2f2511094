use Rattle.stores.proofs.Meanwhile.{locks_keep_numbers}
use Rattle.stores.proofs.laws.locks_keep_numbers.Goals as goal

pub returns : goal.returns
returns c = locks_keep_numbers
