use Rattle.std.proofs.Common.{◌≡◌, drop}
use Rattle.row_change.specs.Storing.{null_faults}
use Rattle.row_change.proofs.testing.check_nulls.Given as goal

-- no column so far is at fault
abbrev pub invariant-loop-column : goal.invariant-loop-column
invariant-loop-column l = null_faults l.leaf (drop l.column-index l.columns) l.rest ≡ null_faults l.leaf l.columns l.row
