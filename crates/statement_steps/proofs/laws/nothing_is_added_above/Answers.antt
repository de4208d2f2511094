use Rattle.statement_steps.proofs.Waiting.{nothing_is_added_above}
use Rattle.statement_steps.proofs.laws.nothing_is_added_above.Goals as goal

pub returns : goal.returns
returns c = nothing_is_added_above
