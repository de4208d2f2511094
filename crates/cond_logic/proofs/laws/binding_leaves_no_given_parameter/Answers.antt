use Rattle.cond_logic.proofs.Bound.{bound_without}
use Rattle.cond_logic.proofs.laws.binding_leaves_no_given_parameter.Goals as goal

pub returns : goal.returns
returns c = bound_without
