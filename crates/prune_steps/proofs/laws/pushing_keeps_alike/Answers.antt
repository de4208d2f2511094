use Rattle.prune_steps.proofs.Knowing.{kept_pushed}
use Rattle.prune_steps.proofs.laws.pushing_keeps_alike.Goals as goal

pub returns : goal.returns
returns c = λ a bounds args n rows t b. kept_pushed a bounds args n rows t b
