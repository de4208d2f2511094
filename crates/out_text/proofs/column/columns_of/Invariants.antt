use Rattle.std.proofs.Common.{◌≡◌, map}
use Rattle.std.specs.List.{range_with_len}
use Rattle.out_text.specs.Table.{column_at}
use Rattle.out_text.proofs.column.columns_of.Given as goal

-- the columns so far
abbrev pub invariant-loop-place : goal.invariant-loop-place
invariant-loop-place l = l.columns.items ≡ map (column_at l.names l.kinds l.rows) (range_with_len 0 l.place)
