-- What can still happen, as a number.
use Rattle.std.specs.Prelude.{ℕ, ◌+◌, ◌*◌, Bool, true, false, List, [], ◌∷◌, length}
use Rattle.sessions.specs.Sessions.{SessionView}
use Rattle.sessions.specs.declared.phase.Phase.{Phase}
use Rattle.sessions.specs.declared.phase.Phase.TheVariants.{Idle, Implicit, Explicit, Failed}

-- a transaction may still begin
abbrev pub of_phase : Phase → ℕ
of_phase Idle = 1
of_phase Implicit = 0
of_phase Explicit = 0
of_phase Failed = 0

-- a statement may commit what it did first, and then it is done or fails
abbrev pub of_statement : (has_committed : Bool) → ℕ
of_statement true = 2
of_statement false = 3

-- of the statements of a block the next one alone may have done so
abbrev pub of_rest : {T : Type 0} → (has_committed : T → Bool) → List T → ℕ
of_rest has_committed [] = 0
of_rest has_committed (t ∷ ts) = of_statement (has_committed t) + 3 * length ts

-- behind its statements the block ends
abbrev pub of_block : Phase → (statements : ℕ) → Bool → ℕ
of_block p n true = n + (of_phase p + 1)
of_block p n false = 0

abbrev pub points : {T : Type 0} → (has_committed : T → Bool) → SessionView T → ℕ
points has_committed x = of_block x.phase (of_rest has_committed x.rest) x.in_block

-- where none has done so
abbrev pub most_points : {T : Type 0} → SessionView T → ℕ
most_points x = of_block x.phase (3 * length x.rest) x.in_block

-- with a statement that was taken from the front of the block
abbrev pub points_with : {T : Type 0} → (has_committed : Bool) → SessionView T → ℕ
points_with has_committed x = of_statement has_committed + most_points x

-- statements are seen as trees
abbrev pub points_in : {T U : Type 0} → (has_committed : ℕ → U → Bool) → (T → U) → (session : ℕ) → SessionView T → ℕ
points_in has_committed tree s x = points (λ t. has_committed s (tree t)) x

-- a point is worth more than all that the executor does at one go
abbrev pub weight_of : (most slack points : ℕ) → ℕ
weight_of most slack points = points * (most + 1) + slack
