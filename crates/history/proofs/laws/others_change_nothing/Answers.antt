use Rattle.history.proofs.Stays.{others_change_nothing}
use Rattle.history.proofs.laws.others_change_nothing.Goals as goal

pub returns : goal.returns
returns c = others_change_nothing
