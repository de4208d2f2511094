use Rattle.binding_laws.proofs.Rewritten.{pushed_fit, given_fit}
use Rattle.binding_laws.proofs.laws.rewritten_conditions_fit.Goals as goal

pub returns-clause-pushed : goal.returns-clause-pushed
returns-clause-pushed c = pushed_fit

pub returns-clause-given : goal.returns-clause-given
returns-clause-given c = given_fit
