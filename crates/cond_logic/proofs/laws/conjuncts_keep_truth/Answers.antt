use Rattle.cond_logic.proofs.Conjuncts.{together}
use Rattle.cond_logic.proofs.laws.conjuncts_keep_truth.Goals as goal

pub returns : goal.returns
returns c = λ rows args t. together rows args t
