use Rattle.row_router.proofs.Defaults.{default_last}
use Rattle.row_router.proofs.laws.default_stands_last.Goals as goal

pub returns : goal.returns
returns c = default_last
