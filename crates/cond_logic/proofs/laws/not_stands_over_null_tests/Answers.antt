use Rattle.cond_logic.proofs.Pushed.{pushed_stands}
use Rattle.cond_logic.proofs.laws.not_stands_over_null_tests.Goals as goal

pub returns : goal.returns
returns c = pushed_stands
