use Rattle.std.proofs.Common.{◌≡◌, ◌<◌, ◌≤◌, ℕ, length, slice_index_or}
use Rattle.pg_values.specs.Sets.{empty}
use Rattle.history.specs.Locks.{LockEvents}
use Rattle.history.specs.Waits.{waits_for}
use Rattle.lock_table.specs.Graph.{edge}
use Rattle.lock_table.specs.Stands.{Tells}
use Rattle.lock_table.proofs.cycle.rows_of.Given as goal

abbrev pub invariant-loop-x : goal.invariant-loop-x
invariant-loop-x l = record {
  len : length l.rows ≡ 65;
  done : (h : LockEvents) → Tells l.held l.waits l.queue h → (x y : ℕ) → x < l.x → edge l.rows x y ≡ waits_for h x y;
}
