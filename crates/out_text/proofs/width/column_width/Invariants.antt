use Rattle.std.proofs.Common.{◌≡◌, drop, max, map}
use Rattle.out_text.specs.Table.{cell_text, column_width, widest}
use Rattle.out_text.proofs.width.column_width.Given as goal

-- the width so far, or that of the rest
abbrev pub invariant-loop-row : goal.invariant-loop-row
invariant-loop-row l = max l.width (widest (map (cell_text l.place) (drop l.row-index l.rows))) ≡ column_width l.place l.names l.rows
