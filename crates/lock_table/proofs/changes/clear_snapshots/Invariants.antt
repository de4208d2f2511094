use Rattle.std.proofs.Common.{◌≡◌, ◌<◌, ◌≤◌, ℕ, length, slice_index_or, None}
use Rattle.history.specs.Locks.{after_snapshot}
use Rattle.lock_table.proofs.changes.clear_snapshots.Given as goal

abbrev pub invariant-loop-i : goal.invariant-loop-i
invariant-loop-i l = record {
  len : length l.waits.items ≡ length l.fn.waits.items;
  done : (s : ℕ) → s < l.i → slice_index_or l.waits.items s None ≡ after_snapshot l.session (slice_index_or l.fn.waits.items s None);
  rest : (s : ℕ) → l.i ≤ s → slice_index_or l.waits.items s None ≡ slice_index_or l.fn.waits.items s None;
}
