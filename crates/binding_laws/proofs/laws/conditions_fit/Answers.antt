use Rattle.binding_laws.proofs.Conditions.{condition_fits}
use Rattle.binding_laws.proofs.laws.conditions_fit.Goals as goal

pub returns : goal.returns
returns c = λ s t sound h e. condition_fits s sound t h e
