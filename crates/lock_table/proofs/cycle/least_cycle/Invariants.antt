use Rattle.std.proofs.Common.{◌-◌}
use Rattle.lock_table.proofs.Ways.{IsSearched}
use Rattle.lock_table.proofs.cycle.least_cycle.Given as goal

abbrev pub invariant-loop-reached : goal.invariant-loop-reached
invariant-loop-reached l = IsSearched l.rows l.s l.count l.level l.reached l.levels

abbrev pub decreases-loop-reached : goal.decreases-loop-reached
decreases-loop-reached l = 65 - l.count
