use Rattle.part_bounds.proofs.Counts.{splits_count}
use Rattle.part_bounds.proofs.stored.points_below.Goals as goal

pub returns-clause-count : goal.returns-clause-count
returns-clause-count g c = splits_count _ _ _ c.search_points.ensures.points
