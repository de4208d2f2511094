use Rattle.std.proofs.Common.{◌≡◌, drop, find}
use Rattle.pg_values.specs.Sets.{nobody}
use Rattle.history.specs.Locks.{LockEvents}
use Rattle.history.specs.Waits.{waits_for, ready}
use Rattle.lock_table.specs.Stands.{Tells}
use Rattle.lock_table.proofs.causes.first_ready.Given as goal

abbrev pub invariant-loop-x : goal.invariant-loop-x
invariant-loop-x l = (h : LockEvents) → Tells l.held l.waits l.queue h → find (λ x. nobody (waits_for h x)) (drop l.x-index l.queue) ≡ ready h
