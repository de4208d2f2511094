use Rattle.std.proofs.Common.{◌≡◌, drop}
use Rattle.row_change.specs.Targets as targets
use Rattle.change_statement.proofs.conflicts.last_or.Given as goal

abbrev pub invariant-loop-below : goal.invariant-loop-below
invariant-loop-below l = targets.last_table l.table (drop l.below-index l.way) ≡ targets.last_table l.fn.first l.way
