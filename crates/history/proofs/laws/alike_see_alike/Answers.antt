use Rattle.history.proofs.Views.{alike_see_alike}
use Rattle.history.proofs.laws.alike_see_alike.Goals as goal

pub returns : goal.returns
returns c = alike_see_alike
