use Rattle.std.proofs.Common.{◌≡◌, ℕ, ◌&&◌, ◌||◌, drop, nat_eq}
use Rattle.std.specs.List.{list_any}
use Rattle.pg_values.specs.Sets.{has}
use Rattle.history.specs.Locks.{LockEvents, holds_against, wanted, queue}
use Rattle.history.specs.Waits.{wants_against, before}
use Rattle.lock_table.specs.Stands.{Tells}
use Rattle.lock_table.proofs.causes.standing.Given as goal

-- what was found, with what is still to be looked at, is what stands against it
abbrev pub invariant-loop-y : goal.invariant-loop-y
invariant-loop-y l = (h : LockEvents) → Tells l.held l.waits l.queue h → (y : ℕ) →
    (has l.found y || (list_any (nat_eq y) (before l.x (drop l.y-index l.queue)) && wants_against h l.x l.table l.mode (wanted h y)))
    ≡ (holds_against h y l.table l.mode || (list_any (nat_eq y) (before l.x (queue h)) && wants_against h l.x l.table l.mode (wanted h y)))
