use Rattle.history.proofs.Views.{seen_before_its_end}
use Rattle.history.proofs.laws.seen_before_its_end.Goals as goal

pub returns : goal.returns
returns c = seen_before_its_end
