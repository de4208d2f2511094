-- What a call makes of the executor and of a session.
use Rattle.std.specs.Prelude.{◌≡◌}
use Rattle.schedule.specs.declared.database.Progress.{Progress}
use Rattle.sessions.specs.Sessions.{SessionView, Turn}

-- it makes of both what the turn does, and answers its progress
abbrev pub Makes : {E S T : Type 0} → (E → S → Type 0) → (S → Turn S T) → E → E → SessionView T → Progress → Type 0
Makes {E} {S} {T} stands f old new x p = (v : S) → stands old v → stands new (f v).executor × (x ≡ (f v).session) × (p ≡ (f v).progress)
