use Rattle.part_bounds.proofs.LevelStored.{ranges_fit}
use Rattle.part_bounds.proofs.laws.level_ranges_fit.Goals as goal

pub returns : goal.returns
returns c = ranges_fit
