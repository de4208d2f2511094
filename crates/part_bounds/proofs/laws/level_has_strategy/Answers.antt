use Rattle.part_bounds.proofs.LevelStored.{has_strategy}
use Rattle.part_bounds.proofs.laws.level_has_strategy.Goals as goal

pub returns : goal.returns
returns c = has_strategy
