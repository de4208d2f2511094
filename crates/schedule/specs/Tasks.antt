-- The sessions of tasks.
use Rattle.std.specs.Prelude.{◌<◌, ℕ, List, All}
use Rattle.schedule.specs.declared.task.Task.{Task}
use Rattle.schedule.specs.declared.task.Task.TheVariants.{Launch, Settle, RollBack}

-- control, 0, where the task has none
abbrev pub session_of : Task → ℕ
session_of (Launch b) = b.session
session_of Settle = 0
session_of (RollBack s) = s

-- the tasks are those of so many sessions
abbrev pub AreKnown : ℕ → List Task → Type 0
AreKnown n tasks = All (λ t. session_of t < n) tasks
