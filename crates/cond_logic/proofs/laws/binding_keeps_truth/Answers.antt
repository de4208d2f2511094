use Rattle.cond_logic.proofs.Bound.{bound_true}
use Rattle.cond_logic.proofs.laws.binding_keeps_truth.Goals as goal

pub returns : goal.returns
returns c = λ rows args later t. bound_true rows args later t
