use Rattle.std.proofs.Common.{◌≡◌, map, take}
use Rattle.row_change.specs.FullRows.{full_row}
use Rattle.row_change.proofs.full_rows.are_full.Given as goal

-- the rows so far are full
abbrev pub invariant-loop-row : goal.invariant-loop-row
invariant-loop-row l = map (full_row l.width l.named) (take l.row-index l.rows) ≡ take l.row-index l.rows
