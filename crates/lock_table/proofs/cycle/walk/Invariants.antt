use Rattle.pg_values.specs.Lists.{listed}
use Rattle.lock_table.proofs.Ways.{IsBegun}
use Rattle.lock_table.proofs.cycle.walk.Given as goal

abbrev pub invariant-loop-left : goal.invariant-loop-left
invariant-loop-left l = IsBegun l.rows l.s l.count l.left l.at (listed l.list)

abbrev pub decreases-loop-left : goal.decreases-loop-left
decreases-loop-left l = l.left
