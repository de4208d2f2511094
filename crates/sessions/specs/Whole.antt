-- The sessions of the code as a whole.
use Rattle.std.specs.Prelude.{ℕ, length}
use Rattle.sessions.specs.Sessions.{State}
use Rattle.sessions.specs.Stands.{Stands, weight}
use Rattle.sessions.specs.declared.executor.Executor.{Ghosts}
use Rattle.sessions.specs.declared.sessions.Sessions.{Sessions}

abbrev pub StandsFor : {E T : Type 0} (g : Ghosts E T) → Sessions E T g → State g.State g.Tree → Type 0
StandsFor {E} {T} g d v = Stands g.stands g.tree d.executor d.sessions.items v

-- what the executor promises of its states
abbrev pub GoodIn : {E T : Type 0} (g : Ghosts E T) → State g.State g.Tree → Type 0
GoodIn {E} {T} g v = g.good v.executor

-- how many there are
abbrev pub count : {E T : Type 0} (g : Ghosts E T) → Sessions E T g → ℕ
count {E} {T} g d = length d.sessions.items

abbrev pub weight_in : {E T : Type 0} (g : Ghosts E T) → Sessions E T g → ℕ
weight_in {E} {T} g d = weight g.most (g.slack d.executor) (g.has_committed d.executor) g.tree d.sessions.items
