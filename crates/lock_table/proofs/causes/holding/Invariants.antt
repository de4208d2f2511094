use Rattle.std.proofs.Common.{◌≡◌, ℕ, List, Option, take}
use Rattle.pg_values.specs.Sets.{has}
use Rattle.history.specs.declared.wait.Wanted.{Wanted}
use Rattle.history.specs.Locks.{LockEvents, holds_one_of}
use Rattle.lock_table.specs.Stands.{Tells}
use Rattle.lock_table.proofs.causes.holding.Given as goal

abbrev pub invariant-loop-mode : goal.invariant-loop-mode
invariant-loop-mode l = (h : LockEvents) (ws : List (Option Wanted)) (q : List ℕ) → Tells l.held ws q h → (y : ℕ) → has l.found y ≡ holds_one_of h y l.table (take l.mode-index l.modes)
