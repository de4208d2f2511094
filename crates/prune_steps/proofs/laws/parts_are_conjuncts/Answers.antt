use Rattle.prune_steps.proofs.Parted.{keeps_parted, given_parted}
use Rattle.prune_steps.proofs.laws.parts_are_conjuncts.Goals as goal

pub returns-clause-keeps : goal.returns-clause-keeps
returns-clause-keeps c = λ a bounds first t b. keeps_parted a bounds first b t

pub returns-clause-gives : goal.returns-clause-gives
returns-clause-gives c = λ a nulls t j. given_parted a nulls j t
