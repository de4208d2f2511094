use Rattle.stores.proofs.Meanwhile.{holding_keeps_looks}
use Rattle.stores.proofs.laws.holding_keeps_looks.Goals as goal

pub returns : goal.returns
returns c = holding_keeps_looks
