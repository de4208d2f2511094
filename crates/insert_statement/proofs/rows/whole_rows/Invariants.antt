use Rattle.std.proofs.Common.{◌≡◌, ◌++◌, length, map}
use Rattle.std.specs.Vec.Iter.{into_iter_items, into_iter_len}
use Rattle.row_change.specs.FullRows.{full_row}
use Rattle.insert_statement.proofs.rows.whole_rows.Given as goal

-- the rows so far are whole, and stand before the rest
abbrev pub invariant-loop-values : goal.invariant-loop-values
invariant-loop-values l = record {
  count : into_iter_len l.values-iterator ≡ length (into_iter_items l.values-iterator);
  whole : l.whole.items ++ map (full_row l.width l.named) (into_iter_items l.values-iterator) ≡ map (full_row l.width l.named) l.fn.rows.items;
}
