-- What comes of a call: its answer, and what its two outputs take.
use Rattle.std.specs.Prelude.{◌≡◌, ◌⊎◌, ℕ, List, []}
use Rattle.std.specs.Io.KnownBytes.{Appends}
use Rattle.pg_values.specs.Faults.{Rose}
use Rattle.pg_values.specs.declared.outside.Sink.{Ghosts}
use Rattle.schedule.specs.Printed.{AppendsPrefix}
use Rattle.script_program.specs.declared.ended.Ended.{Ended}
use Rattle.script_program.specs.declared.ended.Ended.TheVariants.{WriteFault, NoMemory}

pub record Outcome : Type 0 where
  pub ended : Ended
  pub out : List ℕ
  pub err : List ℕ

-- one line on `err`, and nothing on `out`
abbrev pub refusal : Ended → List ℕ → Outcome
refusal ended line = record { ended = ended; out = []; err = line }

-- what `out` has come to at some point, where all that an outcome has on it is written at once: nothing yet, or all of it
abbrev pub AtOnce : (outcomes : Outcome → Type 0) → (out : List ℕ) → Type 0
AtOnce outcomes out = (out ≡ []) ⊎ ((o : Outcome) × outcomes o × (out ≡ o.out))

-- A sink took all of these bytes, and no write failed.
abbrev pub Takes : {K : Type 0} (g : Ghosts K) → K → K → List ℕ → Type 0
Takes {K} g old new bytes = Appends (g.taken old) (g.taken new) bytes × (g.faults new ≡ g.faults old)

-- It took some first ones of them, and no write failed.
abbrev pub TakesFirst : {K : Type 0} (g : Ghosts K) → K → K → List ℕ → Type 0
TakesFirst {K} g old new bytes = AppendsPrefix (g.taken old) (g.taken new) bytes × (g.faults new ≡ g.faults old)

-- It took some first ones of them, and then a write failed.
abbrev pub Fails : {K : Type 0} (g : Ghosts K) → K → K → List ℕ → Type 0
Fails {K} g old new bytes = AppendsPrefix (g.taken old) (g.taken new) bytes × Rose (g.faults old) (g.faults new)

-- An outcome's line was written, or cut by a failed write.
abbrev pub IsTold : {E : Type 0} (g : Ghosts E) → E → E → Outcome → Ended → Type 0
IsTold {E} g old new o ended = ((ended ≡ o.ended) × Takes g old new o.err) ⊎ ((ended ≡ WriteFault) × Fails g old new o.err)

-- How a call ends. One of its outcomes was written whole; or a write failed or memory ran out before. `so_far` are
-- bytes that it has come to write on `out` at some point, when nothing is on its way to `err`.
pub data Ends {K E : Type 0} (k : Ghosts K) (e : Ghosts E) (outcomes : Outcome → Type 0) (so_far : List ℕ → Type 0) (out out' : K) (err err' : E) (ended : Ended) : Type 0 where
  Written : (o : Outcome) → outcomes o → ended ≡ o.ended → Takes k out out' o.out → Takes e err err' o.err → Ends k e outcomes so_far out out' err err' ended
  CutOnOut : (bytes : List ℕ) → so_far bytes → ended ≡ WriteFault → Fails k out out' bytes → Takes e err err' [] → Ends k e outcomes so_far out out' err err' ended
  CutOnErr : (o : Outcome) → outcomes o → ended ≡ WriteFault → Takes k out out' o.out → Fails e err err' o.err → Ends k e outcomes so_far out out' err err' ended
  Stopped : (bytes : List ℕ) → so_far bytes → ended ≡ NoMemory → TakesFirst k out out' bytes → Takes e err err' [] → Ends k e outcomes so_far out out' err err' ended
