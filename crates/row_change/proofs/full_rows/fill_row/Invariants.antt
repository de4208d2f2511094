use Rattle.std.proofs.Common.{◌≡◌}
use Rattle.row_change.specs.FullRows as full_rows
use Rattle.row_change.proofs.full_rows.fill_row.Given as goal

-- a row of all columns so far
abbrev pub invariant-loop-column : goal.invariant-loop-column
invariant-loop-column l = l.row ≡ full_rows.full_row l.column l.named l.values
