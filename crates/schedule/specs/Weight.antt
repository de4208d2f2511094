-- What is left to happen, as a number.
use Rattle.std.specs.Prelude.{◌≡◌, ◌≤◌, ◌<◌, ℕ, ◌+◌, ◌*◌, List, Option, None, Some, length, ◌⊎◌}
use Rattle.std.specs.List.{sum_by}
use Rattle.schedule.specs.declared.database.Database.{Ghosts}
use Rattle.schedule.specs.declared.engine.Engine.{Engine}
use Rattle.schedule.specs.declared.task.Task.{Task}

abbrev pub of_turn : Option ℕ → ℕ
of_turn None = 0
of_turn (Some s) = 1

abbrev pub of_permutation : List Task → ℕ
of_permutation tasks = 1 + length tasks

-- permutations and tasks
abbrev pub left : {D : Type 0} (g : Ghosts D) → Engine D g → ℕ
left {D} g e = length e.tasks.now + sum_by of_permutation e.permutations.now

-- what can happen with no task used up
abbrev pub small : {D : Type 0} (g : Ghosts D) → Engine D g → ℕ
small {D} g e = 3 * g.weight e.db + (2 * of_turn e.turn + length e.held.items)

unfoldable pub measure : {D : Type 0} (g : Ghosts D) → Engine D g → ℕ
measure {D} g e = left g e * (3 * g.cost + 3) + small g e

-- no task is used up
pub record Lowers {D : Type 0} (g : Ghosts D) (old new : Engine D g) : Type 0 where
  pub left : left g new ≡ left g old
  pub small : small g new < small g old

-- a task is used up
pub record Spends {D : Type 0} (g : Ghosts D) (old new : Engine D g) : Type 0 where
  pub left : left g new + 1 ≡ left g old
  pub small : small g new ≤ small g old + (3 * g.cost + 2)

abbrev pub Falls : {D : Type 0} (g : Ghosts D) → Engine D g → Engine D g → Type 0
Falls {D} g old new = Lowers g old new ⊎ Spends g old new
