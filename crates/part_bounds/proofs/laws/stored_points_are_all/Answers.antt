use Rattle.part_bounds.proofs.StoredOrder.{points_are_all}
use Rattle.part_bounds.proofs.laws.stored_points_are_all.Goals as goal

pub returns : goal.returns
returns c = points_are_all
