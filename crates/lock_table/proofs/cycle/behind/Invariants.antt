use Rattle.std.proofs.Common.{◌≡◌, ℕ, Bool, ◌&&◌, not, nat_lt}
use Rattle.pg_values.specs.Sets.{has, nobody}
use Rattle.lock_table.specs.Graph.{edge}
use Rattle.lock_table.proofs.cycle.behind.Given as goal

abbrev pub invariant-loop-x : goal.invariant-loop-x
invariant-loop-x l = (p : ℕ → Bool) → ((y : ℕ) → has l.set y ≡ p y) → (z : ℕ) → has l.found z ≡ (nat_lt z l.x && not (nobody (λ y. edge l.rows z y && p y)))
