-- A call that nothing hinders does all that its words ask for.
use Rattle.std.specs.Prelude.{◌≡◌, ◌≤◌, ℕ, Bool, List, [], Option, Some, length}
use Rattle.pg_values.specs.Faults.{Rose}
use Rattle.pg_values.specs.declared.outside.Sink.{Ghosts as SinkGhosts}
use Rattle.pg_values.specs.declared.outside.Source.{Ghosts as SourceGhosts}
use Rattle.schedule.specs.Run.{World, Runs}
use Rattle.schedule.specs.declared.run_end.RunEnd.TheVariants.{All}
use Rattle.script_program.specs.Outcomes.{Takes}
use Rattle.script_program.specs.Texts.{beginning, printed}
use Rattle.script_program.specs.declared.ended.Ended.{Ended}
use Rattle.script_program.specs.declared.ended.Ended.TheVariants.{Done, NoMemory}
use Rattle.script_program.specs.declared.input.TheConstants.{INPUT_LIMIT}
use Rattle.spec_reader.specs.declared.spec.Spec.{Spec}
use Rattle.step_engine.specs.Run.{RunState, rules, opened}

-- the input holds this text, which is within the limit; no read fails, and no write
pub record IsUnhindered {S K E : Type 0} (s : SourceGhosts S) (k : SinkGhosts K) (e : SinkGhosts E) (text : List ℕ) (input input' : S) (out out' : K) (err err' : E) : Type 0 where
  pub given : s.left input ≡ Some text
  pub within : length text ≤ INPUT_LIMIT
  pub read : Rose (s.faults input) (s.faults input') → ⊥
  pub written : Rose (k.faults out) (k.faults out') → ⊥
  pub told : Rose (e.faults err) (e.faults err') → ⊥

-- no setup of the script's run fails, and no teardown of the control session
abbrev pub NoneFails : (trail : Bool) → Spec → Type 0
NoneFails trail script = (lines : List ℕ) (last : World RunState) → Runs rules (beginning rules (opened trail script) script) lines last → last.end ≡ All

-- what the whole run of a script prints
pub record IsWholeRun (trail : Bool) (script : Spec) (bytes : List ℕ) : Type 0 where
  pub lines : List ℕ
  pub last : World RunState
  pub runs : Runs rules (beginning rules (opened trail script) script) lines last
  pub is : bytes ≡ printed script lines

-- the call is done, `out` took the whole, and `err` nothing; or memory ran out
pub data IsDone {K E : Type 0} (k : SinkGhosts K) (e : SinkGhosts E) (whole : List ℕ → Type 0) (out out' : K) (err err' : E) (ended : Ended) : Type 0 where
  InFull : (bytes : List ℕ) → whole bytes → ended ≡ Done → Takes k out out' bytes → Takes e err err' [] → IsDone k e whole out out' err err' ended
  OutOfMemory : ended ≡ NoMemory → IsDone k e whole out out' err err' ended
