use Rattle.plan_text.proofs.Told.{told_parts}
use Rattle.plan_text.proofs.laws.conjuncts_are_told.Goals as goal

pub returns : goal.returns
returns c = told_parts
