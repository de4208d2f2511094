use Rattle.cond_logic.proofs.Pushed.{pushed_true}
use Rattle.cond_logic.proofs.laws.pushing_keeps_truth.Goals as goal

pub returns : goal.returns
returns c = λ rows args t. pushed_true rows args t
