use Rattle.part_bounds.proofs.LevelStored.{ends_fit, points_wide}
use Rattle.part_bounds.proofs.laws.level_ends_fit.Goals as goal

pub returns-clause-fit : goal.returns-clause-fit
returns-clause-fit c = ends_fit

pub returns-clause-wide : goal.returns-clause-wide
returns-clause-wide c = points_wide
