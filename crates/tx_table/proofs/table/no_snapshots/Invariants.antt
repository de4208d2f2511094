use Rattle.std.proofs.Common.{◌≡◌, ℕ, None, length, slice_index_or}
use Rattle.tx_table.proofs.table.no_snapshots.Given as goal

abbrev pub invariant-loop-place : goal.invariant-loop-place
invariant-loop-place l = record {
  count : length l.held.items ≡ l.place;
  none : (s : ℕ) → slice_index_or l.held.items s None ≡ None;
}
