use Rattle.std.proofs.Common.{◌-◌, ◌≤◌, length, map}
use Rattle.part_ddl.proofs.Behind.{ApartFrom}
use Rattle.part_ddl.proofs.placing.count_before.Given as goal

-- the bound overlaps none of those before low, and the rest halves
abbrev pub invariant-loop-low : goal.invariant-loop-low
invariant-loop-low l = record {
  order : l.low ≤ l.high;
  within : l.high ≤ length l.partitions;
  apart : ApartFrom l.bound (map (λ e. e.now) l.partitions) l.low;
}

abbrev pub decreases-loop-low : goal.decreases-loop-low
decreases-loop-low l = l.high - l.low
