use Rattle.part_bounds.proofs.StoredLaws.{in_row, stored_row}
use Rattle.part_bounds.proofs.stored.ranges_stand_in_row.Goals as goal

pub returns : goal.returns
returns g c =
    let row = in_row _ _ c.requires (rw c.set.view_is at c.set.invariant.0) (rw c.set.view_is at c.set.invariant.1) in
    record { row = row; points = stored_row c.args.set.now row }
