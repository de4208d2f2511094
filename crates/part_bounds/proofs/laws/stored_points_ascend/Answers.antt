use Rattle.part_bounds.proofs.StoredOrder.{listed_apart, points_ascend}
use Rattle.part_bounds.proofs.laws.stored_points_ascend.Goals as goal

pub returns-clause-ascend : goal.returns-clause-ascend
returns-clause-ascend c = points_ascend

pub returns-clause-apart : goal.returns-clause-apart
returns-clause-apart c = listed_apart
